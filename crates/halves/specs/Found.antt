-- What a scan of an envelope's easts finds are its halves. Assumes nothing.
use Rattle.std.specs.Prelude.{◌≡◌, true, false, List, ℕ, ℤ, length}
use Rattle.std.proofs.Common.{sym, ap, subst₂}
use Rattle.std.proofs.Math.Path.{fun_ext}
use Rattle.rules.specs.Streams.{Stream, streams}
use Rattle.rules.specs.Use.{envelope}
use Rattle.laws_halves.specs.Scanned.{HalfAt, Scanned, east_at, scanned_halves}
use Rattle.samples.specs.Positions.{east_of, Sampled}
use Rattle.samples.specs.Samples.{streams-length, sample-at}

-- the easts of the ring are those of the list
easts_are : {es ns : List ℤ} → Sampled es ns → east_at (streams es ns) ≡ east_of es
easts_are {es} {ns} o = fun_ext (λ i. ap (λ (s : Stream). s.east) (sample-at es ns o.even i))

pub found_halves : {es ns : List ℤ} {k c n : ℕ} → Sampled es ns → envelope (streams es ns) ≡ true → Scanned (east_of es) (length es) k c n
    → HalfAt false (streams es ns) 0 k × HalfAt true (streams es ns) c n
found_halves {es} {ns} {k} {c} {n} o e s =
    scanned_halves e (subst₂ (λ (E : ℕ → ℤ) (m : ℕ). Scanned E m k c n) (sym (easts_are o)) (sym (streams-length es ns o.even)) s)
