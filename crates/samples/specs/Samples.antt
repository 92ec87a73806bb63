-- The laws of samples: what the two lists say as streams, and what the test for parts beyond the limit shows of them.
-- Assumes nothing.
use Rattle.std.specs.Prelude.{◌≡◌, refl, Bool, true, false, not, ◌&&◌, ◌||◌, List, [], ◌∷◌, map, ℕ, zero, suc, ◌≤◌, ◌<◌, ℤ, pos, negsuc, nat_abs, neg_ℤ, leb, ltb, length, get_or}
use Rattle.std.proofs.Common.{sym, ap, ap₂, ◌∙◌, subst, arith, leb-true, le-leb, leb-false, ltb-true, ltb-false, lt-ltb, le-ltb}
use Rattle.std.proofs.Math.Path.{fun_ext}
use Rattle.std.proofs.lemmas.Bool.{false≢true, lt-leb, not-false}
use Rattle.std.proofs.lemmas.Simd.{map-map}
use Rattle.std.specs.Int.Signed.{le_z, lt_z}
use Rattle.whole.specs.Laws.{le_z_not_lt_z}
use Rattle.whole.specs.Solver.{var, ⊝◌}
use Rattle.whole.specs.Fits.{Within, []ʷ, ◌∷ʷ◌, value-within}
use Rattle.rules.specs.Lists.{some_of, first_place}
use Rattle.rules.specs.Streams.{Stream, stream, streams, sample, limit, within, beyond, mirrored}
use Rattle.rules.specs.Bridge.{spans}
use Rattle.rules.specs.Entries.{easts, norths}
use Rattle.laws_outline.specs.ListLaws.{both_no, both_yes, at_place_in, none_of_is}
use Rattle.samples.specs.Positions.{facing, at, east_of, easts_span, Near, Sampled, Listed}
use Rattle.samples.specs.Scans.{some_by_place}

-- ---- the streams of two lists of equal length

pub streams-length : (es ns : List ℤ) → length es ≡ length ns → length (streams es ns) ≡ length es
unfolding streams
streams-length [] ns h = refl
streams-length (e ∷ es) [] h = absurd (omega arith)
streams-length (e ∷ es) (n ∷ ns) h = ap suc (streams-length es ns (omega arith))

pub sample-at : (es ns : List ℤ) → length es ≡ length ns → (i : ℕ) → sample (streams es ns) i ≡ at es ns false i
unfolding streams
sample-at [] [] h i = refl
sample-at [] (n ∷ ns) h i = absurd (omega arith)
sample-at (e ∷ es) [] h i = absurd (omega arith)
sample-at (e ∷ es) (n ∷ ns) h zero = refl
sample-at (e ∷ es) (n ∷ ns) h (suc i) = sample-at es ns (omega arith) i

-- so sample numbers stand for the same positions
pub samples-at : (es ns : List ℤ) → length es ≡ length ns → sample (streams es ns) ≡ at es ns false
samples-at es ns h = fun_ext (sample-at es ns h)

-- all easts and all norths are those of the lists
pub streams-easts : (es ns : List ℤ) → length es ≡ length ns → easts (streams es ns) ≡ es
unfolding streams
streams-easts [] ns h = refl
streams-easts (e ∷ es) [] h = absurd (omega arith)
streams-easts (e ∷ es) (n ∷ ns) h = ap (λ (l : List ℤ). e ∷ l) (streams-easts es ns (omega arith))

pub streams-norths : (es ns : List ℤ) → length es ≡ length ns → norths (streams es ns) ≡ ns
unfolding streams
streams-norths [] [] h = refl
streams-norths [] (n ∷ ns) h = absurd (omega arith)
streams-norths (e ∷ es) [] h = absurd (omega arith)
streams-norths (e ∷ es) (n ∷ ns) h = ap (λ (l : List ℤ). n ∷ l) (streams-norths es ns (omega arith))

-- on the lower side norths are negated
pub lower_at : (es ns : List ℤ) (i : ℕ) → at es ns true i ≡ mirrored (at es ns false i)
lower_at es ns i = refl

-- ---- within the limit

lt_not_le : (m n : ℕ) → ltb m n ≡ not (leb n m)
lt_not_le m n = go (ltb m n) refl
  where
    go : (b : Bool) → ltb m n ≡ b → b ≡ not (leb n m)
    go true e = rw (lt-leb n m (ltb-true m n e))
    go false e = rw (le-leb n m (ltb-false m n e))

-- a part beyond the limit on one side, or not on that side
pub beyond-below : (z : ℤ) → lt_z z (neg_ℤ (pos limit)) ≡ true → true ≡ not (within z)
unfolding within
beyond-below (pos n) e = absurd (false≢true e)
beyond-below (negsuc n) e = rw (lt-leb (suc n) limit (omega (arith, ltb-true 999999 n e)))

pub beyond-above : (z : ℤ) → lt_z z (neg_ℤ (pos limit)) ≡ false → lt_z (pos limit) z ≡ not (within z)
unfolding within
beyond-above (pos n) e = lt_not_le limit n
beyond-above (negsuc n) e = rw (le-leb (suc n) limit (omega (arith, ltb-false 999999 n e)))

-- a stream is beyond the limit by one of its parts
pub beyond-parts : (s : Stream) → beyond s ≡ (not (within s.east) || not (within s.north))
unfolding beyond
beyond-parts s = go (within s.east)
  where
    go : (b : Bool) → not (b && within s.north) ≡ (not b || not (within s.north))
    go true = refl
    go false = refl

within-limit : (z : ℤ) → within z ≡ true → Within z limit
unfolding within
within-limit z e = record { within = leb-true (nat_abs z) limit e }

pub both-within : (s : Stream) → beyond s ≡ false → Near s
unfolding beyond
both-within s e =
    let b = both_yes (within s.east) (within s.north) (not-false (within s.east && within s.north) e) in
    record { east_near = within-limit s.east b.0; north_near = within-limit s.north b.1 }

zero_near : Near (stream (pos 0) (pos 0))
zero_near = record { east_near = record { within = omega arith }; north_near = record { within = omega arith } }

-- where no stream of a list is beyond, each is near, also what stands for one past the end
pub sample_near : (xs : List Stream) → some_of beyond xs ≡ false → (i : ℕ) → Near (sample xs i)
unfolding some_of
sample_near [] e i = zero_near
sample_near (x ∷ xs) e zero = both-within x (both_no (beyond x) (some_of beyond xs) e).0
sample_near (x ∷ xs) e (suc i) = sample_near xs (both_no (beyond x) (some_of beyond xs) e).1 i

-- where no part is beyond the limit
pub sampled : (es ns : List ℤ) → length es ≡ length ns → some_of beyond (streams es ns) ≡ false → Sampled es ns
sampled es ns h e = record { even = h; east_near = λ i. (all_near i).east_near; north_near = λ i. (all_near i).north_near }
  where
    all_near : (i : ℕ) → Near (at es ns false i)
    all_near i = subst Near (sample-at es ns h i) (sample_near (streams es ns) e i)

-- what is within the limit is so on either side
pub facing_near : (lower : Bool) {s : Stream} → Near s → Near (facing lower s)
facing_near false h = h
facing_near true h = record { east_near = h.east_near; north_near = value-within (h.north_near ∷ʷ []ʷ) (⊝ var 0) }

-- and so is every position
pub near_at : {es ns : List ℤ} → Sampled es ns → (lower : Bool) (i : ℕ) → Near (at es ns lower i)
near_at s lower i = facing_near lower (record { east_near = s.east_near i; north_near = s.north_near i })

-- and so is a stream that was read at a place
pub read_near : {es ns : List ℤ} → Sampled es ns → (i : ℕ) {s : Stream} → s ≡ sample (streams es ns) i → Near s
read_near {es} {ns} p i e = subst Near (sym (e ∙ sample-at es ns p.even i)) (near_at p false i)

-- a part is beyond the limit where the first place of one is inside
module _ (es ns : List ℤ) (h : length es ≡ length ns) {p : ℕ} (e : p ≡ first_place beyond (streams es ns)) where
  by_place : some_of beyond (streams es ns) ≡ ltb p (length es)
  by_place = some_by_place beyond (streams es ns) ∙ ap₂ ltb (sym e) (streams-length es ns h)

  pub place_inside : p < length es → some_of beyond (streams es ns) ≡ true
  place_inside l = by_place ∙ lt-ltb p (length es) l

  pub place_outside : length es ≤ p → some_of beyond (streams es ns) ≡ false
  place_outside l = by_place ∙ le-ltb p (length es) l

-- ---- listed numbers

pub listed : (count : ℕ) (l : List ℕ) → some_of (λ x. leb count x) l ≡ false → Listed count l
listed count l e = record { below = λ x m. leb-false count x (none_of_is (λ x. leb count x) l e m) }

pub listed_at : {count : ℕ} {l : List ℕ} → Listed count l → (i : ℕ) → i < length l → get_or l i 0 < count
listed_at {l} h i g = h.below (get_or l i 0) (at_place_in l i 0 g)

-- ---- samples on either side of a

some_of_map : {A B : Type 0} (f : B → Bool) (g : A → B) (xs : List A) → some_of f (map g xs) ≡ some_of (λ x. f (g x)) xs
unfolding some_of
some_of_map f g [] = refl
some_of_map f g (x ∷ xs) = ap (λ (b : Bool). f (g x) || b) (some_of_map f g xs)

pub spans-easts : (a : ℤ) (xs : List Stream) → spans a xs ≡ easts_span a (map (λ s. s.east) xs)
unfolding spans easts_span
spans-easts a xs = sym (ap₂ ◌&&◌ (some_of_map (λ e. le_z e a) (λ s. s.east) xs) (some_of_map (λ e. lt_z a e) (λ s. s.east) xs))

-- by all the easts, and by the listed ones
pub samples_span : (a : ℤ) (es ns : List ℤ) → length es ≡ length ns → spans a (streams es ns) ≡ easts_span a es
samples_span a es ns h = spans-easts a (streams es ns) ∙ ap (easts_span a) (streams-easts es ns h)

pub listed_span : (a : ℤ) (es ns : List ℤ) (lower : Bool) (l : List ℕ) → spans a (map (at es ns lower) l) ≡ easts_span a (map (east_of es) l)
listed_span a es ns lower l = spans-easts a (map (at es ns lower) l) ∙ ap (easts_span a) (map-map (λ s. s.east) (at es ns lower) l)

pub sample_list_span : (a : ℤ) (es ns : List ℤ) (l : List ℕ) → length es ≡ length ns
    → spans a (map (sample (streams es ns)) l) ≡ easts_span a (map (east_of es) l)
sample_list_span a es ns l h = ap (λ (f : ℕ → Stream). spans a (map f l)) (samples-at es ns h) ∙ listed_span a es ns false l

-- it takes two samples
pub spans-two : (a : ℤ) (xs : List Stream) → spans a xs ≡ true → 2 ≤ length xs
unfolding spans some_of
spans-two a [] h = absurd (false≢true h)
spans-two a (p ∷ []) h = absurd (go (lt_z a p.east) (le_z_not_lt_z p.east a) h)
  where
    go : (b : Bool) {c : Bool} → c ≡ not b → ((c || false) && (b || false)) ≡ true → ⊥
    go true e f = false≢true (ap (λ (c : Bool). (c || false) && true) (sym e) ∙ f)
    go false {c} e f = false≢true (sym (and-false (c || false)) ∙ f)
      where
        and-false : (b : Bool) → (b && false) ≡ false
        and-false true = refl
        and-false false = refl
spans-two a (p ∷ q ∷ xs) h = omega arith

-- a listed number is not below the count where the first place of one is inside
module _ (count : ℕ) (l : List ℕ) {p : ℕ} (e : p ≡ first_place (λ x. leb count x) l) where
  unlisted_by_place : some_of (λ x. leb count x) l ≡ ltb p (length l)
  unlisted_by_place = some_by_place (λ x. leb count x) l ∙ ap (λ (k : ℕ). ltb k (length l)) (sym e)

  pub unlisted_inside : p < length l → some_of (λ x. leb count x) l ≡ true
  unlisted_inside h = unlisted_by_place ∙ lt-ltb p (length l) h

  pub unlisted_outside : length l ≤ p → some_of (λ x. leb count x) l ≡ false
  unlisted_outside h = unlisted_by_place ∙ le-ltb p (length l) h
