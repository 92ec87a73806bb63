-- What the code computes with: each part of a near stream is read from a word of 32 bits as it is, and is within the limit. Two words are equal
-- exactly if their numbers are. Assumes nothing.
use Rattle.std.specs.Prelude.{◌≡◌, refl, Bool, true, false, [], ◌∷◌, ◌^◌, ◌<◌, eqb, ℤ}
use Rattle.std.proofs.Common.{sym, ap, ◌∙◌, eqb-true, int_eq, to_z-of_z}
use Rattle.std.specs.Int.Signed.{mag}
use Rattle.std.proofs.lemmas.Bool.{eqb-false, false≢true}
use Rattle.std.proofs.lemmas.Bool.Decides.{Decides-int_eq}
use Rattle.std.specs.Int.{Width, w32}
use mir.Val.{SFits, to_z, of_z, hbits}
use Rattle.whole.specs.Laws.{eqZ, eq_test, ne_test}
use Rattle.whole.specs.Fits as fits
use Rattle.whole.specs.Fits.{Within, Held, Leaves, []ʷ, ◌∷ᶜ◌}
use Rattle.rules.specs.Streams.{Stream, limit}
use Rattle.samples.specs.Positions.{Near}

abbrev pub read : ℤ → ℤ
read = fits.read w32

pub near_fits : {z : ℤ} → Within z limit → SFits w32 z
near_fits h = fits.within-fits w32 h tt

pub held : {z : ℤ} → Within z limit → Held (read z) z limit
held h = fits.read-within w32 h tt

-- two words are equal exactly if their numbers are
pub words_equal : (w : Width) (y z : ℤ) → mag y < 2 ^ hbits w → mag z < 2 ^ hbits w → eqb (of_z w y) (of_z w z) ≡ eqZ y z
words_equal w y z h k = go (eqb (of_z w y) (of_z w z)) refl
  where
    go : (b : Bool) → eqb (of_z w y) (of_z w z) ≡ b → b ≡ eqZ y z
    go true e = sym (eq_test {a = y} {b = z} (sym (to_z-of_z (record { sfits = h })) ∙ ap (to_z w) (eqb-true (of_z w y) (of_z w z) e) ∙ to_z-of_z (record { sfits = k })))
    go false e = sym (ne_test {a = y} {b = z} (λ q. eqb-false (of_z w y) (of_z w z) e (ap (of_z w) q)))

-- the library's test of two numbers is the rules'
pub numbers_equal : (y z : ℤ) → int_eq y z ≡ eqZ y z
numbers_equal y z = go (int_eq y z) refl
  where
    go : (b : Bool) → int_eq y z ≡ b → b ≡ eqZ y z
    go true e = sym (eq_test {a = y} {b = z} ((Decides-int_eq y z).0 e))
    go false e = sym (ne_test {a = y} {b = z} (λ q. false≢true (sym e ∙ (Decides-int_eq y z).1 q)))

-- the parts of two streams, and of three, as the leaves of an expression
pub two_near : {p q : Stream} → Near p × Near q →
    Leaves
    (read p.east ∷ read p.north ∷ read q.east ∷ read q.north ∷ [])
    (p.east ∷ p.north ∷ q.east ∷ q.north ∷ [])
    (limit ∷ limit ∷ limit ∷ limit ∷ [])
two_near (h, k) = held h.east_near ∷ᶜ held h.north_near ∷ᶜ held k.east_near ∷ᶜ held k.north_near ∷ᶜ []ʷ

pub three_near : {p q r : Stream} → Near p × Near q × Near r →
    Leaves
    (read p.east ∷ read p.north ∷ read q.east ∷ read q.north ∷ read r.east ∷ read r.north ∷ [])
    (p.east ∷ p.north ∷ q.east ∷ q.north ∷ r.east ∷ r.north ∷ [])
    (limit ∷ limit ∷ limit ∷ limit ∷ limit ∷ limit ∷ [])
three_near (h, k, l) =
    held h.east_near
    ∷ᶜ held h.north_near
    ∷ᶜ held k.east_near
    ∷ᶜ held k.north_near
    ∷ᶜ held l.east_near
    ∷ᶜ held l.north_near
    ∷ᶜ []ʷ
