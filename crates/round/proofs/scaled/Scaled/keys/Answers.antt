use Rattle.std.specs.Prelude.{◌≡◌, [], ◌∷◌, ℤ}
use Rattle.std.specs.Int.{w64}
use Rattle.whole.specs.Solver.{var, ◌⊕◌, ◌⊖◌}
use Rattle.whole.specs.Fits.{Leaves, []ʷ, ◌∷ᶜ◌, step_fits, word-is}
use Rattle.rules.specs.Streams.{Stream}
use Rattle.rules.specs.Round.{height}
use Rattle.samples.specs.Positions.{Near}
use Rattle.samples.specs.StreamWords.{read, held}
use Rattle.round.specs.declared.scaled.Scaled.{Scaled}
use Rattle.round.specs.Tops.{as_scaled}
use Rattle.round.proofs.RoundWords.{height_near}
use Rattle.round.proofs.scaled.Scaled.keys.Goals as goal

-- the height and the east
leaves : (k : Scaled) {s : Stream} → Near s → {h : ℤ} → h ≡ height (as_scaled k) s
    → Leaves (h ∷ read s.east ∷ []) (height (as_scaled k) s ∷ s.east ∷ []) (8000004000000000000 ∷ 1000000 ∷ [])
leaves k near e = record { same = e; near = height_near k near } ∷ᶜ held near.east_near ∷ᶜ []ʷ

pub overflow_sub-result : goal.overflow_sub-result
overflow_sub-result c = step_fits w64 (leaves c.args.self c.requires c.height-h.ensures) (var 0 ⊖ var 1) tt

pub overflow_add-result : goal.overflow_add-result
overflow_add-result c = step_fits w64 (leaves c.args.self c.requires c.height-h.ensures) (var 0 ⊕ var 1) tt

pub returns : goal.returns
returns c =
    let l = leaves c.args.self c.requires c.height-h.ensures in
    record { west_is = word-is w64 l (var 0 ⊖ var 1) tt; east_is = word-is w64 l (var 0 ⊕ var 1) tt }
