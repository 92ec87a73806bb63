use Rattle.std.proofs.Common.{◌≡◌, sym, ◌∙◌, arith, rules}
use Rattle.laws_outline.specs.SamePosition.{same_equal, same_no}
use Rattle.samples.specs.Sides.{seen}
use Rattle.step.proofs.SignedWords.{word}
use Rattle.step.proofs.StepParts.{alone_is, cut_asks, split_asks, over-cut, parts, left_less, left_asks, left_made, behind_fits, right_copied, right_less, right_asks, both_made, chain-is}
use Rattle.step.proofs.+chain_step.Goals as goal

-- ---- the chain of a list

pub chain-returns-then-together : goal.chain-returns-then-together
chain-returns-then-together t c =
    let a = c.args in
    alone_is c.requires (same_equal (seen a.s a.p) (seen a.s a.q) (sym c.together.ensures ∙ c.if-together.true))

pub chain-step-requires : goal.chain-step-requires
chain-step-requires t c =
    let a = c.args in (
      omega (arith, c.decreases),
      record {
        asks = c.requires;
        far = same_no (seen a.s a.p) (seen a.s a.q) (sym c.together.ensures ∙ c.if-together.false);
      },
    )

-- ---- a step, place after place

pub step-cut-a-requires : goal.step-cut-a-requires
step-cut-a-requires t c = cut_asks c.requires c.args.s.samples.sampled

pub step-split_over-requires : goal.step-split_over-requires
step-split_over-requires t c = split_asks c.requires c.cut-a.ensures c.cut-a.auto.w

pub step-returns-in_err-k : goal.step-returns-in_err-k
step-returns-in_err-k t c =
    let k : word c.cut-a.result ≡ c.cut-a.result = search rules in
    absurd (over-cut c.requires c.cut-a.ensures c.cut-a.auto.w k c.in_err-k.ensures)

pub step-chain-requires : goal.step-chain-requires
step-chain-requires t c =
    let k : word c.cut-a.result ≡ c.cut-a.result = search rules in
    let p = parts c.requires c.cut-a.ensures c.cut-a.auto.w k c.in_ok-k.ensures c.split_over.auto.w in
    (omega (arith, c.decreases, left_less p), left_asks p)

pub step-copy_within-requires-clause-dest_in_bounds : goal.step-copy_within-requires-clause-dest_in_bounds
step-copy_within-requires-clause-dest_in_bounds t c =
    let k : word c.cut-a.result ≡ c.cut-a.result = search rules in
    let p = parts c.requires c.cut-a.ensures c.cut-a.auto.w k c.in_ok-k.ensures c.split_over.auto.w in
    let fits = behind_fits p (left_made p c.in_ok-u.ensures c.chain.auto.w) in
    omega arith

pub step-chain-requires-2 : goal.step-chain-requires-2
step-chain-requires-2 t c =
    let k : word c.cut-a.result ≡ c.cut-a.result = search rules in
    let p = parts c.requires c.cut-a.ensures c.cut-a.auto.w k c.in_ok-k.ensures c.split_over.auto.w in
    let m = left_made p c.in_ok-u.ensures c.chain.auto.w in
    (omega (arith, c.decreases, right_less p), right_asks p (right_copied p m c.copy_within.ensures.after))

pub step-returns : goal.step-returns
step-returns t c =
    let k : word c.cut-a.result ≡ c.cut-a.result = search rules in
    let p = parts c.requires c.cut-a.ensures c.cut-a.auto.w k c.in_ok-k.ensures c.split_over.auto.w in
    let m = left_made p c.in_ok-u.ensures c.chain.auto.w in
    let b = both_made p (right_copied p m c.copy_within.ensures.after) c.in_ok-v.ensures c.chain-2.auto.w in
    chain-is p b c.copy_within-2.ensures.after
