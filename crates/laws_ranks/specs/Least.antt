-- The least item taken out of a list: what is left, and how ranks go over to it; a rank sought so, until the least has it. The test of order need hold only among the items that P holds of.
-- Assumes nothing.
use Rattle.std.specs.Prelude.{◌≡◌, ◌⊎◌, Bool, cond, not, ℕ, ◌+◌, ◌-◌, ◌<◌}
use Rattle.std.proofs.Math.Path.{refl, subst}
use Rattle.std.proofs.Common.{sym, inl, inr, arith}
use Rattle.std.proofs.Math.Bool.{true, false}
use mathlib.Core.List.Memᴰ
use mathlib.Core.List.{List, [], ◌∷◌, ◌++◌, Memᴰ}
use Rattle.std.proofs.Math.Dec.{T, T_not, not_T}
use Rattle.laws_ranks.specs.Counts.{bit_le, bit_yes, count, count-append, count-nothing, SameItems}
use Rattle.laws_ranks.specs.Ranks.{HasRank, under, upto, not-not, twice}
use Rattle.laws_ranks.specs.RanksAmong.{OrderOn}

module _ {A : Type 0} (le : A → A → Bool) where
  -- p is the least of xs, and ys are the others, in any order
  pub record LeastOut (xs : List A) (p : A) (ys : List A) : Type 0 where
    pub items : SameItems xs (p ∷ ys)
    pub isIn : Memᴰ p xs
    pub others_in : (y : A) → Memᴰ y ys → Memᴰ y xs
    pub least : (y : A) → Memᴰ y ys → T (le p y)

  -- of xs the ys are left: what has rank s among them has rank r among xs
  pub record Sought (xs : List A) (r : ℕ) (ys : List A) (s : ℕ) : Type 0 where
    pub left_in : (y : A) → Memᴰ y ys → Memᴰ y xs
    pub back : (y : A) → Memᴰ y ys → HasRank le s ys y → HasRank le r xs y

  pub sought_first : (xs : List A) (r : ℕ) → Sought xs r xs r
  sought_first xs r = record { left_in = λ y m. m; back = λ y m h. h }

-- what holds of every item and of one more holds of all
all_more : {A : Type 0} (Q : A → Type 0) (ys : List A) (w : A) → ((y : A) → Memᴰ y ys → Q y) → Q w → (y : A) → Memᴰ y (ys ++ (w ∷ [])) → Q y
all_more {A} Q ys w all last y m = go (Memᴰ.append_cases ys m)
  where
    go : Memᴰ y ys ⊎ Memᴰ y (w ∷ []) → Q y
    go (inl k) = all y k
    go (inr k) = subst Q (sym (Memᴰ.eq_of_singleton k)) last

module _ {A : Type 0} {P : A → Type 0} {le : A → A → Bool} (o : OrderOn P le) where
  -- of one item nothing is left
  pub out_one : (x : A) → LeastOut le (x ∷ []) x []
  out_one x =
      record {
        items = record { counts = λ f. refl };
        isIn = Memᴰ.head refl;
        others_in = λ y m. absurd (Memᴰ.not-nil m);
        least = λ y m. absurd (Memᴰ.not-nil m);
      }

  module _ {xs ys : List A} {p : A} (all : (y : A) → Memᴰ y xs → P y) (h : LeastOut le xs p ys) where
    -- one item more: the lesser of it and the least goes on as the least, and the other is left
    pub out_more : {x : A} → P x → (b : Bool) → b ≡ under le p x → LeastOut le (xs ++ (x ∷ [])) (cond b x p) (ys ++ (cond b p x ∷ []))
    unfolding count
    out_more {x} Px true e =
        let Pp = all p h.isIn in
        let xp : T (le x p) = o.total p x Pp Px (subst T e tt) in
        record {
          items = record { counts = λ f. omega (arith, count-append f xs (x ∷ []), h.items.counts f, count-append f ys (p ∷ [])) };
          isIn = Memᴰ.append_right xs (Memᴰ.head refl);
          others_in =
              all_more (λ (y : A). Memᴰ y (xs ++ (x ∷ []))) ys p (λ y m. Memᴰ.append_left (x ∷ []) (h.others_in y m))
              (Memᴰ.append_left (x ∷ []) h.isIn);
          least = all_more (λ (y : A). T (le x y)) ys p (λ y m. o.trans x p y Px Pp (all y (h.others_in y m)) xp (h.least y m)) xp;
        }
    out_more {x} Px false e =
        record {
          items = record { counts = λ f. omega (arith, count-append f xs (x ∷ []), h.items.counts f, count-append f ys (x ∷ [])) };
          isIn = Memᴰ.append_left (x ∷ []) h.isIn;
          others_in =
              all_more (λ (y : A). Memᴰ y (xs ++ (x ∷ []))) ys x (λ y m. Memᴰ.append_left (x ∷ []) (h.others_in y m))
              (Memᴰ.append_right xs (Memᴰ.head refl));
          least = all_more (λ (y : A). T (le p y)) ys x h.least (not-not (le p x) (subst (λ (b : Bool). T (not b)) e tt));
        }

    -- the least has rank 1
    pub out_first : HasRank le 1 xs p
    unfolding count
    out_first =
        let Pp = all p h.isIn in
        let self : T (le p p) = go Pp (le p p) refl in
        let none = count-nothing (under le p) (p ∷ ys) (λ y m. twice (le p y) (at_least Pp y (Memᴰ.cases_cons m))) in
        record {
          fewer = omega (arith, h.items.counts (under le p));
          enough = omega (arith, h.items.counts (upto le p), bit_yes (le p p) self);
        }
      where
        go : P p → (b : Bool) → le p p ≡ b → T (le p p)
        go Pp true e = subst T (sym e) tt
        go Pp false e = o.total p p Pp Pp (subst (λ (b : Bool). T (not b)) (sym e) tt)

        at_least : P p → (y : A) → (y ≡ p) ⊎ Memᴰ y ys → T (le p y)
        at_least Pp y (inl e) = subst (λ (z : A). T (le p z)) (sym e) (go Pp (le p p) refl)
        at_least Pp y (inr m) = h.least y m

    -- what has a rank among the others has the next among all
    pub out_next : {r : ℕ} {v : A} → P v → HasRank le r ys v → HasRank le (r + 1) xs v
    unfolding count
    out_next {r} {v} Pv k =
        let low = bit_yes (le p v) (go (le p v) refl) in
        let fewer = k.fewer in
        let enough = k.enough in
        record {
          fewer = omega (arith, h.items.counts (under le v), bit_le (under le v p) true (λ t. tt));
          enough = omega (arith, h.items.counts (upto le v));
        }
      where
        go : (b : Bool) → le p v ≡ b → T (le p v)
        go true e = subst T (sym e) tt
        go false e =
            let no : T (not (le p v)) = subst (λ (b : Bool). T (not b)) (sym e) tt in
            let none =
            count-nothing (upto le v) ys (λ y m. not_T (le y v) (λ t.
            T_not (le p v) no (o.trans p y v (all p h.isIn) (all y (h.others_in y m)) Pv (h.least y m) t))) in
            let a = k.fewer in
            let b = k.enough in
            absurd (omega arith)

  module _ {xs ys zs : List A} {r s : ℕ} {p : A} (all : (y : A) → Memᴰ y xs → P y) (t : Sought le xs r ys s) (h : LeastOut le ys p zs) where
    left : (y : A) → Memᴰ y ys → P y
    left y m = all y (t.left_in y m)

    -- the least of those that are left has the rank
    pub sought_here : s ≡ 1 → Memᴰ p xs × HasRank le r xs p
    sought_here e = (t.left_in p h.isIn, t.back p h.isIn (rw e (out_first left h)))

    -- or it is taken out, and the rank before is sought among the others
    pub sought_next : 1 < s → Sought le xs r zs (s - 1)
    sought_next more =
        let next : s - 1 + 1 ≡ s = omega arith in
        record {
          left_in = λ y m. t.left_in y (h.others_in y m);
          back = λ y m k. t.back y (h.others_in y m) (rw next at (out_next left h (left y (h.others_in y m)) k));
        }
