-- What a round's pairs keep, whatever K is: a list in list order, how many go, and at a position on the bridge the first item of the whole list.
-- Assumes nothing.
use Rattle.std.specs.Prelude.{◌≡◌, Bool, true, false, cond, ℕ, suc, ◌+◌, ◌/◌, pos, ◌≤ℤ◌, ◌<ℤ◌, length}
use Rattle.std.proofs.Math.Path.{refl, sym, ap₂, subst}
use Rattle.std.proofs.Common.{ap, ◌∙◌, ⊎_elim, arith, length-append}
use Rattle.std.proofs.Math.Option.{Option, none, some}
use mathlib.Core.List.Memᴰ
use mathlib.Core.List.Sublistᴰ
use mathlib.Core.List.{List, [], ◌∷◌, ◌++◌, Memᴰ, Sublistᴰ}
use Rattle.std.specs.Int.Signed.{lt_z}
use Rattle.whole.specs.Linear.{order}
use Rattle.whole.specs.Laws.{test-lt, test_nlt, ≤ℤ_split, ≤ℤ_antisym, <ℤ→0<}
use Rattle.rules.specs.Streams.{Stream, side, same}
use Rattle.rules.specs.Round.{Slope, slope, slope_le, height, Group, pair, odd, paired, Tops, unsought, west, east, slope_of, with_slope, slopes, higher, left_of, right_of, keeps_of, keeps, keep}
use Rattle.laws_ranks.specs.Counts.{bit, count}
use Rattle.laws_outline.specs.ListLaws.{is_no, not-both}
use Rattle.laws_outline.specs.SamePosition.{streams_equal, same_equal, equal_same}
use Rattle.laws_rounds.specs.ListedItems.{first_of, or_else, first_of_append, first_goes, second_goes}
use Rattle.laws_rounds.specs.Slopes.{Up, lower-below, lower_left, lower_right, slope_at_least, slope-at-most}

-- which pairs with a slope lose a sample: those of slope K or more, or those of slope K or less
abbrev pub loses : Tops → Slope → Bool
loses unsought k = false
loses (west K) k = slope_le K k
loses (east K) k = slope_le k K

-- what the place of the tops says of the bridge from p to q: K is steeper than it, or less steep
abbrev pub Fits : Tops → Stream → Stream → Type 0
Fits unsought p q = Unit {0}
Fits (west K) p q = Up K × (height K q <ℤ height K p)
Fits (east K) p q = Up K × (height K p <ℤ height K q)

-- of a list of n items whose pairs have the slopes ks, so many pairs have equal easts and no slope, and m items are kept
pub record Tally (t : Tops) (ks : List Slope) (n m : ℕ) : Type 0 where
  pub uprights : ℕ
  pub pairs : uprights + length ks ≡ n / 2
  pub kept-or-gone : m + (uprights + count (loses t) ks) ≡ n

module _ {A : Type 0} (at : A → Stream) where
  -- ---- how a pair lies

  -- l is the left one of x and y, and r the right
  pub record Ordered (x y l r : A) : Type 0 where
    pub is-left : left_of at x y ≡ l
    pub is_right : right_of at x y ≡ r
    pub ahead : (at l).east <ℤ (at r).east
    pub has-slope : slope_of at (pair x y) ≡ some (slope (at l) (at r))

  -- a pair has one east and no slope, or its samples are in the order of their easts, or in the other
  pub data Lies (x y : A) : Type 0 where
    upright : (at x).east ≡ (at y).east → slope_of at (pair x y) ≡ none → Lies x y
    eastward : Ordered x y x y → Lies x y
    westward : Ordered x y y x → Lies x y

  pub lies : (x y : A) → Lies x y
  lies x y = go (lt_z (at x).east (at y).east) refl (lt_z (at y).east (at x).east) refl
    where
      go : (b : Bool) → lt_z (at x).east (at y).east ≡ b → (c : Bool) → lt_z (at y).east (at x).east ≡ c → Lies x y
      go true e c f = eastward (record { is-left = rw e; is_right = rw e; ahead = test-lt _ _ e; has-slope = rw e })
      go false e true f = westward (record { is-left = rw e; is_right = rw e; ahead = test-lt _ _ f; has-slope = rw (e, f) })
      go false e false f = upright (≤ℤ_antisym (test_nlt _ _ f) (test_nlt _ _ e)) (rw (e, f))

  -- the run of a pair's slope is above zero
  pub slopes-up : (gs : List (Group A)) (k : Slope) → Memᴰ k (slopes at gs) → Up k
  unfolding slopes
  slopes-up [] k m = absurd (Memᴰ.not-nil m)
  slopes-up (odd x ∷ gs) k m = slopes-up gs k m
  slopes-up (pair x y ∷ gs) k m = go (lies x y) (λ n. slopes-up gs k n)
    where
      in_slopes : {o : Option Slope} → slope_of at (pair x y) ≡ o → Memᴰ k (with_slope at o (slopes at gs))
      in_slopes q = subst (λ (o : Option Slope). Memᴰ k (with_slope at o (slopes at gs))) q m

      up : {l r : A} → Ordered x y l r → (Memᴰ k (slopes at gs) → Up k) → Up k
      up o rest = ⊎_elim (λ e. subst Up (sym e) (<ℤ→0< o.ahead)) rest (Memᴰ.cases_cons (in_slopes o.has-slope))

      go : Lies x y → (Memᴰ k (slopes at gs) → Up k) → Up k
      go (upright e q) rest = rest (in_slopes q)
      go (eastward o) rest = up o rest
      go (westward o) rest = up o rest

  -- ---- what is kept stands in list order

  one_kept : (b : Bool) (x y : A) → Sublistᴰ (cond b x y ∷ []) (x ∷ y ∷ [])
  one_kept true x y = Sublistᴰ.cons-cons refl (Sublistᴰ.cons Sublistᴰ.slnil)
  one_kept false x y = Sublistᴰ.cons (Sublistᴰ.cons-cons refl Sublistᴰ.slnil)

  other-kept : (b : Bool) (x y : A) → Sublistᴰ (cond b y x ∷ []) (x ∷ y ∷ [])
  other-kept true x y = one_kept false x y
  other-kept false x y = one_kept true x y

  keeps_in_order : (t : Tops) (o : Option Slope) (x y : A) → Sublistᴰ (keeps_of at t o x y) (x ∷ y ∷ [])
  keeps_in_order t none x y = other-kept (lt_z (at x).north (at y).north) x y
  keeps_in_order unsought (some k) x y = Sublistᴰ.refl (x ∷ y ∷ [])
  keeps_in_order (west K) (some k) x y = go (slope_le K k)
    where
      go : (b : Bool) → Sublistᴰ (cond b (right_of at x y ∷ []) (x ∷ y ∷ [])) (x ∷ y ∷ [])
      go true = other-kept (lt_z (at x).east (at y).east) x y
      go false = Sublistᴰ.refl (x ∷ y ∷ [])
  keeps_in_order (east K) (some k) x y = go (slope_le k K)
    where
      go : (b : Bool) → Sublistᴰ (cond b (left_of at x y ∷ []) (x ∷ y ∷ [])) (x ∷ y ∷ [])
      go true = one_kept (lt_z (at x).east (at y).east) x y
      go false = Sublistᴰ.refl (x ∷ y ∷ [])

  pub keep_in_order : (t : Tops) (l : List A) → Sublistᴰ (keep at t (paired l)) l
  unfolding keep paired
  keep_in_order t [] = Sublistᴰ.slnil
  keep_in_order t (x ∷ []) = Sublistᴰ.refl (x ∷ [])
  keep_in_order t (x ∷ y ∷ l) = Sublistᴰ.append (keeps_in_order t (slope_of at (pair x y)) x y) (keep_in_order t l)

  -- ---- how many go

  -- of a pair of equal east one goes, of another if it loses one
  abbrev gone : Tops → Option Slope → ℕ
  gone t none = 1
  gone t (some k) = bit (loses t k)

  keeps-length : (t : Tops) (o : Option Slope) (x y : A) → length (keeps_of at t o x y) + gone t o ≡ 2
  keeps-length t none x y = refl
  keeps-length unsought (some k) x y = refl
  keeps-length (west K) (some k) x y = go (slope_le K k)
    where
      go : (b : Bool) → length (cond b (right_of at x y ∷ []) (x ∷ y ∷ [])) + bit b ≡ 2
      go true = refl
      go false = refl
  keeps-length (east K) (some k) x y = go (slope_le k K)
    where
      go : (b : Bool) → length (cond b (left_of at x y ∷ []) (x ∷ y ∷ [])) + bit b ≡ 2
      go true = refl
      go false = refl

  pub tally : (t : Tops) (l : List A) → Tally t (slopes at (paired l)) (length l) (length (keep at t (paired l)))
  unfolding keep paired slopes count
  tally t [] = record { uprights = 0; pairs = refl; kept-or-gone = refl }
  tally t (x ∷ []) = record { uprights = 0; pairs = refl; kept-or-gone = refl }
  tally t (x ∷ y ∷ l) = go (slope_of at (pair x y)) (keeps-length t (slope_of at (pair x y)) x y) (tally t l)
    where
      ks : List Slope
      ks = slopes at (paired l)

      m : List A
      m = keep at t (paired l)

      go : (o : Option Slope) → length (keeps_of at t o x y) + gone t o ≡ 2 → Tally t ks (length l) (length m)
          → Tally t (with_slope at o ks) (suc (suc (length l))) (length (keeps_of at t o x y ++ m))
      go none e h = record { uprights = suc h.uprights; pairs = omega arith; kept-or-gone = omega arith }
      go (some k) e h =
          record {
            uprights = h.uprights;
            pairs = omega arith;
            kept-or-gone = omega (arith, length-append (keeps_of at t (some k) x y) m);
          }

  -- ---- at a position on the line of the bridge, from p to q, the first item stays

  -- x stands at s
  abbrev pub here : Stream → A → Bool
  here s x = same s (at x)

  module _ (p q : Stream) (ahead : p.east <ℤ q.east) (s : Stream) (on_line : side p q s ≡ pos 0) where
    -- an item lower than another that is not above the line is not on it
    not-here : (x y : A) → side p q (at x) <ℤ side p q (at y) → side p q (at y) ≤ℤ pos 0 → here s x ≡ false
    not-here x y h k = is_no (here s x) λ e. go (ap (λ (r : Stream). side p q r) (same_equal s (at x) e))
      where
        go : side p q s ≡ side p q (at x) → ⊥
        go e = omega order

    higher-first : (x y : A) → (at x).east ≡ (at y).east → side p q (at x) ≤ℤ pos 0 → side p q (at y) ≤ℤ pos 0
        → first_of (here s) (higher at x y ∷ []) ≡ first_of (here s) (x ∷ y ∷ [])
    higher-first x y e bx by = go (lt_z (at x).north (at y).north) refl
      where
        with_first : (at y).north ≤ℤ (at x).north → here s y ≡ true → here s x ≡ true
        with_first h k =
            ⊎_elim
            (λ g. not-both k (not-here y x (lower-below p q ahead (at y) (at x) (sym e) g) bx))
            (λ g. equal_same (same_equal s (at y) k ∙ streams_equal (sym e) g))
            (≤ℤ_split h)

        go : (b : Bool) → lt_z (at x).north (at y).north ≡ b → first_of (here s) (cond b y x ∷ []) ≡ first_of (here s) (x ∷ y ∷ [])
        go true h = first_goes (here s) x y (not-here x y (lower-below p q ahead (at x) (at y) e (test-lt _ _ h)) by)
        go false h = second_goes (here s) x y (with_first (test_nlt _ _ h))

    -- of a pair with a slope the left one, or the right one, may be lower
    module _ {x y l r : A} (o : Ordered x y l r) (bl : side p q (at l) ≤ℤ pos 0) (br : side p q (at r) ≤ℤ pos 0) where
      left_goes : (K : Slope) → Fits (west K) p q → slope_le K (slope (at l) (at r)) ≡ true → here s l ≡ false
      left_goes K f e = not-here l r (lower_left p q ahead K f.0 (at l) (at r) o.ahead f.1 (slope_at_least K (at l) (at r) e)) br

      right_goes : (K : Slope) → Fits (east K) p q → slope_le (slope (at l) (at r)) K ≡ true → here s r ≡ false
      right_goes K f e = not-here r l (lower_right p q ahead K f.0 (at l) (at r) o.ahead f.1 (slope-at-most K (at l) (at r) e)) bl

      -- what stays of the pair, if it is enough that either may go where it is not at s
      sloped_first : (here s l ≡ false → first_of (here s) (r ∷ []) ≡ first_of (here s) (x ∷ y ∷ []))
          → (here s r ≡ false → first_of (here s) (l ∷ []) ≡ first_of (here s) (x ∷ y ∷ []))
          → (t : Tops) → Fits t p q → first_of (here s) (keeps_of at t (some (slope (at l) (at r))) x y) ≡ first_of (here s) (x ∷ y ∷ [])
      sloped_first f g unsought h = refl
      sloped_first f g (west K) h = go (slope_le K (slope (at l) (at r))) refl
        where
          go : (b : Bool) → slope_le K (slope (at l) (at r)) ≡ b
              → first_of (here s) (cond b (right_of at x y ∷ []) (x ∷ y ∷ [])) ≡ first_of (here s) (x ∷ y ∷ [])
          go true e = ap (λ (z : A). first_of (here s) (z ∷ [])) o.is_right ∙ f (left_goes K h e)
          go false e = refl
      sloped_first f g (east K) h = go (slope_le (slope (at l) (at r)) K) refl
        where
          go : (b : Bool) → slope_le (slope (at l) (at r)) K ≡ b
              → first_of (here s) (cond b (left_of at x y ∷ []) (x ∷ y ∷ [])) ≡ first_of (here s) (x ∷ y ∷ [])
          go true e = ap (λ (z : A). first_of (here s) (z ∷ [])) o.is-left ∙ g (right_goes K h e)
          go false e = refl

    pair-first : (t : Tops) → Fits t p q → (x y : A) → side p q (at x) ≤ℤ pos 0 → side p q (at y) ≤ℤ pos 0
        → first_of (here s) (keeps at t (pair x y)) ≡ first_of (here s) (x ∷ y ∷ [])
    pair-first t f x y bx by = go (lies x y)
      where
        stays : (o : Option Slope) → slope_of at (pair x y) ≡ o → first_of (here s) (keeps_of at t o x y) ≡ first_of (here s) (x ∷ y ∷ [])
            → first_of (here s) (keeps at t (pair x y)) ≡ first_of (here s) (x ∷ y ∷ [])
        stays o e h = ap (λ (o : Option Slope). first_of (here s) (keeps_of at t o x y)) e ∙ h

        go : Lies x y → first_of (here s) (keeps at t (pair x y)) ≡ first_of (here s) (x ∷ y ∷ [])
        go (upright e q) = stays none q (higher-first x y e bx by)
        go (eastward o) =
            stays
            (some (slope (at x) (at y)))
            o.has-slope
            (sloped_first o bx by (first_goes (here s) x y) (λ e. second_goes (here s) x y (λ k. not-both k e)) t f)
        go (westward o) =
            stays
            (some (slope (at y) (at x)))
            o.has-slope
            (sloped_first o by bx (λ e. second_goes (here s) x y (λ k. not-both k e)) (first_goes (here s) x y) t f)

    pub keep-first : (t : Tops) → Fits t p q → (l : List A) → ((x : A) → Memᴰ x l → side p q (at x) ≤ℤ pos 0)
        → first_of (here s) (keep at t (paired l)) ≡ first_of (here s) l
    unfolding keep paired
    keep-first t f [] below = refl
    keep-first t f (x ∷ []) below = refl
    keep-first t f (x ∷ y ∷ l) below =
        first_of_append (here s) (keeps at t (pair x y)) (keep at t (paired l))
        ∙ ap₂ or_else
        (pair-first t f x y (below x (Memᴰ.head refl)) (below y (Memᴰ.tail (Memᴰ.head refl))))
        (keep-first t f l (λ z m. below z (Memᴰ.tail (Memᴰ.tail m))))
        ∙ sym (first_of_append (here s) (x ∷ y ∷ []) l)
