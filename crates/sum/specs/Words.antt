-- The parts of four streams within the limit as the leaves of an expression.
-- Assumes nothing.
use Rattle.std.specs.Prelude.{[], ◌∷◌}
use Rattle.whole.specs.Fits.{Leaves, []ʷ, ◌∷ᶜ◌}
use Rattle.rules.specs.Streams.{Stream, limit}
use Rattle.samples.specs.Positions.{Near}
use Rattle.samples.specs.StreamWords.{read, held}

pub four_near : {p q u v : Stream} → Near p × Near q × Near u × Near v →
    Leaves
    (read p.east ∷ read p.north ∷ read q.east ∷ read q.north ∷ read u.east ∷ read u.north ∷ read v.east ∷ read v.north ∷ [])
    (p.east ∷ p.north ∷ q.east ∷ q.north ∷ u.east ∷ u.north ∷ v.east ∷ v.north ∷ [])
    (limit ∷ limit ∷ limit ∷ limit ∷ limit ∷ limit ∷ limit ∷ limit ∷ [])
four_near (h, k, l, m) =
    held h.east_near
    ∷ᶜ held h.north_near
    ∷ᶜ held k.east_near
    ∷ᶜ held k.north_near
    ∷ᶜ held l.east_near
    ∷ᶜ held l.north_near
    ∷ᶜ held m.east_near
    ∷ᶜ held m.north_near
    ∷ᶜ []ʷ
