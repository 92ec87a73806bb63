use Rattle.std.proofs.Common.{◌≡◌, Bool, true, ◌&&◌, ℕ, ℤ, List, map, length, take, sym, ◌∙◌, subst, arith, rules}
use Rattle.std.specs.Int.Signed.{le_z, lt_z}
use Rattle.whole.specs.Laws.{test-le, test-lt}
use Rattle.rules.specs.Bridge.{spans, ends}
use Rattle.laws_outline.specs.ListLaws.{both_yes}
use Rattle.laws_outline.specs.Bridges.{is-spans}
use Rattle.laws_rounds.specs.Rounds.{Found, found_in}
use Rattle.samples.specs.Positions.{at, east_of, Listed}
use Rattle.samples.specs.Sides.{easts, seen}
use Rattle.step.specs.Stepping.{SplitAsks, HalvesSay}
use Rattle.step.proofs.SignedWords.{word}
use Rattle.step.proofs.split_over.Goals as goal

on-both-sides : {es ns : List ℤ} {lower : Bool} {w : List ℕ} {t p q : ℕ} (a : ℤ) → SplitAsks es ns lower w t p q
    → (le_z (east_of es p) a && lt_z a (east_of es q)) ≡ true → spans a (map (at es ns lower) (take t w)) ≡ true
on-both-sides {es} {ns} {lower} {w} {t} {p} {q} a h e =
    let k = both_yes (le_z (east_of es p) a) (lt_z a (east_of es q)) e in
    is-spans
    a
    (map (at es ns lower) (take t w))
    (record {
      west = at es ns lower p;
      east = at es ns lower q;
      west_given = h.left_given;
      east_given = h.right_given;
      at_most = test-le (east_of es p) a k.0;
      above = test-lt a (east_of es q) k.1;
    })

pub bridge_behind-b-requires : goal.bridge_behind-b-requires
bridge_behind-b-requires c =
    record {
      listed = c.requires.listed;
      spanned = on-both-sides (word c.args.a) c.requires (sym c.bridged.ensures ∙ c.if-not-bridged.false);
      two = c.requires.two;
      room = c.requires.room;
    }

pub halve-h-requires : goal.halve-h-requires
halve-h-requires c =
    let a = c.args in
    let b = c.bridge_behind-b in
    let k = found_in (seen a.s) (word a.a) b.ensures.is in
    record {
      listed = subst (Listed (length (easts a.s))) (sym b.ensures.same-list) c.requires.listed;
      left_below = c.requires.listed.below b.result.left k.0;
      right_below = c.requires.listed.below b.result.right k.1;
      two = c.requires.two;
      room = omega (arith, c.requires.room, b.auto.w);
    }

pub returns : goal.returns
returns c =
    let a = c.args in
    let b = c.bridge_behind-b in
    let h = c.halve-h in
    let k : word a.a ≡ a.a = search rules in
    record {
      found = subst (λ (z : ℤ). Found (seen a.s) z (take a.t a.w.now) (ends b.result.left b.result.right)) k b.ensures.is;
      halves = subst (λ (l : List ℕ). HalvesSay (easts a.s) l b.result.left b.result.right h.result.left h.result.right h.new.w) b.ensures.same-list h.ensures;
    }
