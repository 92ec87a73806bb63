-- A ring that is taken as it is or turned about, corner by corner: where it begins among the corners that stand there, and which of them each of its own is.
-- Assumes nothing.
use Rattle.std.specs.Prelude.{◌≡◌, refl, Bool, true, false, cond, List, map, ℕ, ◌+◌, ◌-◌, ◌≤◌, ◌<◌, pos, length, take, drop}
use Rattle.std.proofs.Common.{sym, ap, ◌∙◌, map-id, append-nil, arith, length-append, length-drop, get_or-take, get_or-drop, get_or-append-add, length-take-le}
use Rattle.std.proofs.lemmas.List.{length-map}
use Rattle.std.proofs.Math.ListN.{get_or-append, get_or-map}
use Rattle.rules.specs.Streams.{Stream, stream, sample, turned}
use Rattle.rules.specs.Use.{turn_about}
use Rattle.laws_rings.specs.Cycle.{from_place}
use Rattle.envelope.specs.Turns.{Entry}

-- the ring turned about, or as it is; a stream with both signs changed, or as it is
abbrev pub turned_if : Bool → List Stream → List Stream
turned_if about r = cond about (turn_about r) r

abbrev pub changed_if : Bool → Stream → Stream
changed_if about s = cond about (turned s) s

-- its corners are those that stand there from place r on and round
pub record Begins (about : Bool) (xs : List Stream) (r : ℕ) : Type 0 where
  pub here : r ≤ length xs
  pub corners : turned_if about xs ≡ map (changed_if about) (from_place r xs)

pub begins-first : (xs : List Stream) → Begins false xs 0
begins-first xs = record { here = omega arith; corners = sym (map-id (from_place 0 xs) ∙ append-nil xs) }

pub begins_entry : {xs : List Stream} {r : ℕ} → Entry xs r → Begins true xs r
begins_entry e = record { here = e.here; corners = e.turns_about }

-- place r comes i places after a start, round n of them
pub record After (n start i r : ℕ) : Type 0 where
  pub inside : r < n
  pub item : (xs : List Stream) → length xs ≡ n → sample (from_place start xs) i ≡ sample xs r

module _ (n start i : ℕ) where
  pub goes_on : i < n - start → After n start i (start + i)
  goes_on h = record {
    inside = omega arith;
    item = λ xs e.
        get_or-append (drop start xs) (take start xs) (stream (pos 0) (pos 0)) i (omega (arith, length-drop start xs))
        ∙ get_or-drop start xs i (stream (pos 0) (pos 0));
  }

  pub goes_round : start ≤ n → i < n → n - start ≤ i → After n start i (i - (n - start))
  goes_round s h k = record {
    inside = omega arith;
    item = λ xs e.
        let d = stream (pos 0) (pos 0) in
        let place : i ≡ length (drop start xs) + (i - (n - start)) = omega (arith, length-drop start xs) in
        ap (sample (from_place start xs)) place
        ∙ get_or-append-add (drop start xs) (take start xs) (i - (n - start)) d
        ∙ get_or-take start xs (i - (n - start)) d (omega arith);
  }

module _ {about : Bool} {xs : List Stream} {start : ℕ} (b : Begins about xs start) where
  pub begins-length : length (turned_if about xs) ≡ length xs
  begins-length =
      ap length b.corners
      ∙ length-map (from_place start xs) (changed_if about)
      ∙ omega (arith, length-append (drop start xs) (take start xs), length-drop start xs, length-take-le start xs b.here, b.here)

  -- its corner i
  pub begins-corner : {i r : ℕ} → After (length xs) start i r → sample (turned_if about xs) i ≡ changed_if about (sample xs r)
  begins-corner {i} {r} a =
      ap (λ (l : List Stream). sample l i) b.corners
      ∙ changed about (from_place start xs) i
      ∙ ap (changed_if about) (a.item xs refl)
    where
      changed : (about : Bool) (l : List Stream) (i : ℕ) → sample (map (changed_if about) l) i ≡ changed_if about (sample l i)
      changed true l i = get_or-map turned l i (stream (pos 0) (pos 0))
      changed false l i = get_or-map (λ s. s) l i (stream (pos 0) (pos 0))
