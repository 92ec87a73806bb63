-- `step::cut` meets its contract: the key picked behind the list is the key of the rank's east.
-- Assumes nothing.
use Rattle.std.proofs.Common.{◌-◌, ◌∙◌, length, arith, w32, w64}
use borrow.Rule.Slice.PartMut.{take_put}
use Rattle.whole.specs.Solver.{var}
use Rattle.whole.specs.Fits.{[]ʷ, ◌∷ᶜ◌, cast_read, word-is}
use Rattle.step.proofs.Cutting.{list-stays, cut-is}
use Rattle.step.proofs.cut.Goals as goal

pub returns : goal.returns
returns c =
    let a = c.args in
    let now = c.easts.new.w in
    record {
      is =
          word-is w64 (cast_read w32 c.number.result c.number.type_inv ∷ᶜ []ʷ) (var 0) tt
          ∙ c.number.ensures
          ∙ cut-is c.requires c.easts.ensures (rw c.split_at_mut-keys.ensures.front at c.pick_key-key.ensures);
      same-list =
          take_put a.t (length now - a.t) now _ (omega (arith, c.requires, c.easts.auto.w))
          ∙ list-stays c.requires c.easts.ensures;
    }
