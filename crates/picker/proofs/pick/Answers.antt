-- `picker::pick` meets its promise: where none of its tests holds, what is picked among the keys tells the number of the rank, and all the scratch is zero.
-- Assumes nothing.
use Rattle.std.proofs.Common.{◌≡◌, ℕ, ◌+◌, ◌*◌, ◌≤◌, List, length, refl, arith, rules, ap, ◌∙◌, ℤ, w32, le-ltb, ne_eqb}
use Rattle.std.proofs.Math.Facts.{to_z-of_z}
use Rattle.rules.specs.Streams.{most}
use Rattle.rules.specs.Picker.{rank}
use Rattle.rules.specs.Refusals.{done}
use Rattle.rules.specs.Entries.{pick_answer}
use Rattle.picker.specs.KeyLaws.{picked-number}
use Rattle.picker.proofs.pick.Goals as goal

all_well : (xs : List ℤ) (r : ℕ) (given : List ℕ)
    → length xs ≤ most
    → (r ≡ 0 → ⊥)
    → r ≤ length xs
    → 16 * length xs + 64 ≤ length given
    → pick_answer xs r given ≡ done (rank r xs)
unfolding pick_answer
all_well xs r given few least ranked room =
    rw (le-ltb most (length xs) few, ne_eqb r 0 least, le-ltb (length xs) r ranked, le-ltb (length given) (16 * length xs + 64) room) refl

pub returns : goal.returns
returns c =
    let e = all_well c.args.xs.now c.args.r c.args.scratch.now (omega arith) c.if-r-eq0.false (omega arith) (omega arith) in
    let is = to_z-of_z {w = w32} (record { sfits = c.number.type_inv }) ∙ c.number.ensures ∙ picked-number c.load.ensures.words c.load.ensures.w_after (rw c.split_at_mut-keys.ensures.front at c.pick_key-key.ensures) in
    record { answer = rw e (ap done is); scratch = rw e (search rules) }
