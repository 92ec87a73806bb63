-- Corners printed one after the other, each as its own line.
-- Assumes nothing.
use Rattle.std.specs.Prelude.{◌≡◌, refl, ◌⊎◌, true, false, ℕ, suc, ◌+◌, ◌≤◌, ◌<◌, ℤ, pos, negsuc, nat_abs, length, get_or, drop}
use Rattle.std.proofs.Math.Path.{sym, ap}
use Rattle.std.proofs.Common.{◌∙◌, ap₂, inl, inr, true≢false, add-zero, add-one, arith, ltb-true, length-append, drop-cons}
use mathlib.Core.List.{List, [], ◌∷◌, ◌++◌, append_assoc, append-nil}
use Rattle.std.specs.Int.Signed.{lt_z}
use Rattle.std.proofs.Math.Seq.{append_snoc}
use Rattle.rules.specs.Streams.{Stream, streams}
use Rattle.rules.specs.Refusals.{refused, done}
use Rattle.rules.specs.Program.{newline, space, minus, printed_natural, printed_whole, ring_word, refused_word, printed_corners, printed}
use Rattle.samples.specs.Placed.{placed_none, Put, then, room_after, room_first}

-- ---- a whole number

pub whole_negative : (z : ℤ) → lt_z z (pos 0) ≡ true → printed_whole z ≡ minus ∷ printed_natural (nat_abs z)
unfolding printed_whole
whole_negative (pos n) h = absurd (omega (arith, ltb-true n 0 h))
whole_negative (negsuc n) h = refl

pub whole_other : (z : ℤ) → lt_z z (pos 0) ≡ false → printed_whole z ≡ printed_natural (nat_abs z)
unfolding printed_whole
whole_other (pos n) h = refl
whole_other (negsuc n) h = absurd (true≢false h)

-- ---- a corner's line, with its newline

abbrev pub printed_corner : ℤ → ℤ → List ℕ
printed_corner e n = printed_whole e ++ (space ∷ printed_whole n) ++ (newline ∷ [])

pub corner-length : (e n : ℤ) → length (printed_corner e n) ≡ length (printed_whole e) + 1 + length (printed_whole n) + 1
corner-length e n =
    length-append (printed_whole e ++ (space ∷ printed_whole n)) (newline ∷ [])
    ∙ omega (arith, length-append (printed_whole e) (space ∷ printed_whole n))

-- a corner before others: its line, then theirs
pub corners-first : (e n : ℤ) (es ns : List ℤ) → printed_corners (streams (e ∷ es) (n ∷ ns)) ≡ printed_corner e n ++ printed_corners (streams es ns)
unfolding printed_corners streams
corners-first e n es ns = sym (append_snoc (printed_whole e ++ (space ∷ printed_whole n)) newline (printed_corners (streams es ns)))

pub no_corners : (es ns : List ℤ) → (length es ≡ 0) ⊎ (length ns ≡ 0) → printed_corners (streams es ns) ≡ []
unfolding printed_corners streams
no_corners [] ns h = refl
no_corners (e ∷ es) [] h = refl
no_corners (e ∷ es) (n ∷ ns) (inl h) = absurd (omega arith)
no_corners (e ∷ es) (n ∷ ns) (inr h) = absurd (omega arith)

-- the corners from a place on: the line of the one that stands there, then the rest
pub corner-here : (es ns : List ℤ) (i : ℕ) → i < length es → i < length ns →
    printed_corners (streams (drop i es) (drop i ns))
    ≡ printed_corner (get_or es i (pos 0)) (get_or ns i (pos 0)) ++ printed_corners (streams (drop (i + 1) es) (drop (i + 1) ns))
unfolding printed_corners streams
corner-here es ns i h g =
    let e = get_or es i (pos 0) in
    let n = get_or ns i (pos 0) in
    rw (drop-cons es i (pos 0) h, drop-cons ns i (pos 0) g, add-one)
    (sym (append_snoc (printed_whole e ++ (space ∷ printed_whole n)) newline (printed_corners (streams (drop (suc i) es) (drop (suc i) ns)))))

-- ---- the lines put so far, of all corners but those that are left

pub record Lines (es ns : List ℤ) (from : ℕ) (easts norths : List ℤ) (at : ℕ) (old now : List ℕ) : Type 0 where
  pub bytes : List ℕ
  pub put : Put bytes from old now at
  pub all : printed_corners (streams es ns) ≡ bytes ++ printed_corners (streams easts norths)

pub lines_none : (es ns : List ℤ) (from : ℕ) (old : List ℕ) → from ≤ length old → Lines es ns from es ns from old old
lines_none es ns from old h = record {
  bytes = [];
  put = record { next_is = sym (add-zero from); room = omega arith; content = sym (placed_none from old) };
  all = refl;
}

module _ {es ns : List ℤ} {from at : ℕ} {easts norths : List ℤ} {old now : List ℕ} (l : Lines es ns from easts norths at old now) where
  pub lines_all : (length easts ≡ 0) ⊎ (length norths ≡ 0) → Put (printed_corners (streams es ns)) from old now at
  lines_all h =
      let e : printed_corners (streams es ns) ≡ l.bytes =
      l.all ∙ ap (λ (x : List ℕ). l.bytes ++ x) (no_corners easts norths h) ∙ append-nil l.bytes in
      rw e l.put

  module _ {e n : ℤ} {easts' norths' : List ℤ} (east_is : easts ≡ e ∷ easts') (north_is : norths ≡ n ∷ norths') where
    split : printed_corners (streams es ns) ≡ (l.bytes ++ printed_corner e n) ++ printed_corners (streams easts' norths')
    split =
        l.all
        ∙ ap (λ (x : List ℕ). l.bytes ++ x) (ap₂ (λ (x y : List ℤ). printed_corners (streams x y)) east_is north_is ∙ corners-first e n easts' norths')
        ∙ sym (append_assoc l.bytes (printed_corner e n) (printed_corners (streams easts' norths')))

    pub line_room : from + length (printed_corners (streams es ns)) ≤ length old → at + length (printed_corner e n) ≤ length now
    line_room room =
        room_after (printed_corner e n) l.put
        (room_first from (l.bytes ++ printed_corner e n) (printed_corners (streams easts' norths')) (rw split at room))

    pub lines_more : {next : ℕ} {new : List ℕ} → Put (printed_corner e n) at now new next → Lines es ns from easts' norths' next old new
    lines_more p = record { bytes = l.bytes ++ printed_corner e n; put = then l.put p; all = split }

-- ---- the whole answer

pub refusal_length : (k p : ℕ) → length (printed (refused k p)) ≡ 8 + length (printed_natural k) + 1 + length (printed_natural p) + 1
unfolding printed
refusal_length k p =
    length-append (refused_word ++ printed_natural k ++ (space ∷ printed_natural p)) (newline ∷ [])
    ∙ omega (arith, length-append (refused_word ++ printed_natural k) (space ∷ printed_natural p), length-append refused_word (printed_natural k))

pub ring-length : (r : List Stream) → length (printed (done r)) ≡ 5 + length (printed_natural (length r)) + 1 + length (printed_corners r)
unfolding printed
ring-length r =
    length-append (ring_word ++ printed_natural (length r)) (newline ∷ printed_corners r)
    ∙ omega (arith, length-append ring_word (printed_natural (length r)))
