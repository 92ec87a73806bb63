-- The laws of the lists of the rules: which items pass a test, the first of them, the best item, lists alike, and positions told apart.
-- Assumes nothing.
use Rattle.std.specs.Prelude.{◌≡◌, ◌↔◌, ◌≢◌, ◌⊎◌, Bool, ◌&&◌, ◌||◌, get_or}
use Rattle.std.proofs.Math.Path.{refl, ap, ap₂, subst}
use Rattle.std.proofs.Common.{sym, ◌∙◌, inl, inr, true≢false}
use Rattle.std.proofs.Math.Logic.{⊎_elim}
use Rattle.std.proofs.Math.Bool.{true, false, cond, not}
use Rattle.std.proofs.lemmas.Bool.{false≢true}
use Rattle.std.proofs.Math.Option.{none, some, some-injective, none-ne-some}
use mathlib.Core.List.Memᴰ
use mathlib.Core.List.{List, [], ◌∷◌, map, Memᴰ}
use Prim.Native.Nat.{ℕ, zero, suc, ◌+◌, ◌≤◌, ◌<◌}
use native.Mathlib.Omega.{arith}
use Rattle.std.proofs.Math.ListN.{length}
use Rattle.rules.specs.Lists.{consIf, those, some_of, all_of, first_place, best_from, best, alike}

-- ---- what two tests say together

pub both_yes : (s t : Bool) → (s && t) ≡ true → (s ≡ true) × (t ≡ true)
both_yes true t e = (refl, e)
both_yes false t e = absurd (false≢true e)

pub yes_both : {s t : Bool} → s ≡ true → t ≡ true → (s && t) ≡ true
yes_both {s} {t} p q = ap₂ ◌&&◌ p q

pub one_no : (s t : Bool) → (s && t) ≡ false → (s ≡ false) ⊎ (t ≡ false)
one_no true t e = inr e
one_no false t e = inl refl

pub one_yes : (s t : Bool) → (s || t) ≡ true → (s ≡ true) ⊎ (t ≡ true)
one_yes true t e = inl refl
one_yes false t e = inr e

pub yes_one : (s t : Bool) → (s ≡ true) ⊎ (t ≡ true) → (s || t) ≡ true
yes_one true t o = refl
yes_one false t o = ⊎_elim (λ e. absurd (false≢true e)) (λ e. e) o

pub both_no : (s t : Bool) → (s || t) ≡ false → (s ≡ false) × (t ≡ false)
both_no true t e = absurd (true≢false e)
both_no false t e = (refl, e)

-- a test answers true or false
pub answer : (t : Bool) → (t ≡ true) ⊎ (t ≡ false)
answer true = inl refl
answer false = inr refl

pub not-both {ℓ} : {X : Type ℓ} {t : Bool} → t ≡ true → t ≡ false → X
not-both p q = absurd (true≢false (sym p ∙ q))

-- no is the other answer
pub is_no : (t : Bool) → ¬ (t ≡ true) → t ≡ false
is_no true f = absurd (f refl)
is_no false f = refl

-- two tests answer alike if what passes the one passes the other
pub same_true : (s t : Bool) → (s ≡ true → t ≡ true) → (t ≡ true → s ≡ true) → s ≡ t
same_true true t f g = sym (f refl)
same_true false true f g = g refl
same_true false false f g = refl

module _ {A : Type 0} where
  -- ---- the items that pass a test

  pub those_in : (f : A → Bool) (xs : List A) {p : A} → Memᴰ p (those f xs) → Memᴰ p xs × (f p ≡ true)
  unfolding those
  those_in f [] m = absurd (Memᴰ.not-nil m)
  those_in f (x ∷ xs) {p} m = go (f x) refl (λ h. those_in f xs h) m
    where
      deeper : Memᴰ p xs × (f p ≡ true) → Memᴰ p (x ∷ xs) × (f p ≡ true)
      deeper h = (Memᴰ.tail h.0, h.1)

      go : (b : Bool) → f x ≡ b → (Memᴰ p (those f xs) → Memᴰ p xs × (f p ≡ true)) → Memᴰ p (consIf b x (those f xs))
          → Memᴰ p (x ∷ xs) × (f p ≡ true)
      go true e r m = ⊎_elim (λ h. (Memᴰ.head h, ap f h ∙ e)) (λ h. deeper (r h)) (Memᴰ.cases_cons m)
      go false e r m = deeper (r m)

  pub in_those : (f : A → Bool) {p : A} {xs : List A} → Memᴰ p xs → f p ≡ true → Memᴰ p (those f xs)
  unfolding those
  in_those f {p} (Memᴰ.head {x} {xs} h) e = go (f x) (sym (ap f h) ∙ e)
    where
      go : (b : Bool) → b ≡ true → Memᴰ p (consIf b x (those f xs))
      go true q = Memᴰ.head h
      go false q = absurd (false≢true q)
  in_those f {p} (Memᴰ.tail {x} {xs} m) e = go (f x) (in_those f m e)
    where
      go : (b : Bool) → Memᴰ p (those f xs) → Memᴰ p (consIf b x (those f xs))
      go true r = Memᴰ.tail r
      go false r = r

  pub those-mem : (f : A → Bool) (xs : List A) (p : A) → Memᴰ p (those f xs) ↔ (Memᴰ p xs × (f p ≡ true))
  those-mem f xs p = (those_in f xs, λ h. in_those f h.0 h.1)

  -- a test that passes less leaves no more, and fewer if it fails an item that the other passes
  pub those_less : (f g : A → Bool) → ((x : A) → f x ≡ true → g x ≡ true) → (xs : List A) → length (those f xs) ≤ length (those g xs)
  unfolding those
  those_less f g le [] = omega arith
  those_less f g le (x ∷ xs) = go (f x) (g x) (le x) (those_less f g le xs)
    where
      go : (b c : Bool) → (b ≡ true → c ≡ true) → length (those f xs) ≤ length (those g xs)
          → length (consIf b x (those f xs)) ≤ length (consIf c x (those g xs))
      go true true i r = omega arith
      go true false i r = absurd (false≢true (i refl))
      go false true i r = omega arith
      go false false i r = r

  pub those_fewer : (f g : A → Bool) → ((x : A) → f x ≡ true → g x ≡ true) → {p : A} {xs : List A} → Memᴰ p xs → f p ≡ false → g p ≡ true
      → length (those f xs) < length (those g xs)
  unfolding those
  those_fewer f g le (Memᴰ.head {x} {xs} h) n y = go (f x) (g x) (sym (ap f h) ∙ n) (sym (ap g h) ∙ y) (those_less f g le xs)
    where
      go : (b c : Bool) → b ≡ false → c ≡ true → length (those f xs) ≤ length (those g xs)
          → length (consIf b x (those f xs)) < length (consIf c x (those g xs))
      go true c n y r = absurd (true≢false n)
      go false true n y r = omega arith
      go false false n y r = absurd (false≢true y)
  those_fewer f g le (Memᴰ.tail {x} {xs} m) n y = go (f x) (g x) (le x) (those_fewer f g le m n y)
    where
      go : (b c : Bool) → (b ≡ true → c ≡ true) → length (those f xs) < length (those g xs)
          → length (consIf b x (those f xs)) < length (consIf c x (those g xs))
      go true true i r = omega arith
      go true false i r = absurd (false≢true (i refl))
      go false true i r = omega arith
      go false false i r = r

  those-all : (xs : List A) → those (λ x. true) xs ≡ xs
  unfolding those
  those-all [] = refl
  those-all (x ∷ xs) = ap (λ (l : List A). x ∷ l) (those-all xs)

  pub those-most : (f : A → Bool) (xs : List A) → length (those f xs) ≤ length xs
  those-most f xs = rw those-all at (those_less f (λ x. true) (λ x e. refl) xs)

  pub those_shorter : (f : A → Bool) {xs : List A} {p : A} → Memᴰ p xs → f p ≡ false → length (those f xs) < length xs
  those_shorter f m n = rw those-all at (those_fewer f (λ x. true) (λ x e. refl) m n refl)

  -- those that pass and those that do not are all
  pub those_rest : (f g : A → Bool) → ((x : A) → g x ≡ not (f x)) → (xs : List A) → length (those f xs) + length (those g xs) ≡ length xs
  unfolding those
  those_rest f g h [] = omega arith
  those_rest f g h (x ∷ xs) = go (f x) (g x) (h x) (those_rest f g h xs)
    where
      go : (b c : Bool) → c ≡ not b → length (those f xs) + length (those g xs) ≡ length xs
          → length (consIf b x (those f xs)) + length (consIf c x (those g xs)) ≡ suc (length xs)
      go true true e r = absurd (true≢false e)
      go true false e r = omega arith
      go false true e r = omega arith
      go false false e r = absurd (false≢true e)

  pub those_none : (f : A → Bool) (xs : List A) → ((x : A) → Memᴰ x xs → f x ≡ false) → those f xs ≡ []
  unfolding those
  those_none f [] h = refl
  those_none f (x ∷ xs) h = rw (h x (Memᴰ.head refl)) (those_none f xs (λ y m. h y (Memᴰ.tail m)))

  -- a second test leaves no more
  pub those_again : (f g : A → Bool) (xs : List A) → length (those f (those g xs)) ≤ length (those f xs)
  unfolding those
  those_again f g [] = omega arith
  those_again f g (x ∷ xs) = go (g x) (those_again f g xs)
    where
      more : (c : Bool) (ys zs : List A) → length ys ≤ length zs → length (consIf c x ys) ≤ length (consIf c x zs)
      more true ys zs r = omega arith
      more false ys zs r = r

      one_more : (c : Bool) (ys zs : List A) → length ys ≤ length zs → length ys ≤ length (consIf c x zs)
      one_more true ys zs r = omega arith
      one_more false ys zs r = r

      go : (b : Bool) → length (those f (those g xs)) ≤ length (those f xs)
          → length (those f (consIf b x (those g xs))) ≤ length (consIf (f x) x (those f xs))
      go true r = more (f x) (those f (those g xs)) (those f xs) r
      go false r = one_more (f x) (those f (those g xs)) (those f xs) r

  pub member_counts : {xs : List A} {p : A} → Memᴰ p xs → 0 < length xs
  member_counts (Memᴰ.head e) = omega arith
  member_counts (Memᴰ.tail m) = omega arith

  -- ---- items by their places

  -- what stands at a place stands in the list, and the other way round
  pub at_place_in : (xs : List A) (i : ℕ) (d : A) → i < length xs → Memᴰ (get_or xs i d) xs
  at_place_in [] i d h = absurd (omega arith)
  at_place_in (x ∷ xs) zero d h = Memᴰ.head refl
  at_place_in (x ∷ xs) (suc i) d h = Memᴰ.tail (at_place_in xs i d (omega arith))

  pub in_place : {p : A} (xs : List A) (d : A) → Memᴰ p xs → (i : ℕ) × (i < length xs) × (p ≡ get_or xs i d)
  in_place xs d (Memᴰ.head e) = (0, omega arith, e)
  in_place xs d (Memᴰ.tail {xs = ys} m) = let h = in_place ys d m in (suc h.0, (let l = h.1 in omega arith), h.2)

  -- ---- some item passes, every item passes

  pub some_of_is : (f : A → Bool) (xs : List A) → some_of f xs ≡ true → (p : A) × Memᴰ p xs × (f p ≡ true)
  unfolding some_of
  some_of_is f [] e = absurd (false≢true e)
  some_of_is f (x ∷ xs) e = ⊎_elim (λ h. (x, Memᴰ.head refl, h)) (λ h. deeper (some_of_is f xs h)) (one_yes (f x) (some_of f xs) e)
    where
      deeper : (p : A) × Memᴰ p xs × (f p ≡ true) → (p : A) × Memᴰ p (x ∷ xs) × (f p ≡ true)
      deeper h = (h.0, Memᴰ.tail h.1, h.2)

  pub is_some_of : (f : A → Bool) {p : A} {xs : List A} → Memᴰ p xs → f p ≡ true → some_of f xs ≡ true
  unfolding some_of
  is_some_of f (Memᴰ.head {x} {xs} h) e = rw (sym (ap f h) ∙ e) refl
  is_some_of f (Memᴰ.tail {x} {xs} m) e = go (f x) (is_some_of f m e)
    where
      go : (b : Bool) → some_of f xs ≡ true → (b || some_of f xs) ≡ true
      go true r = refl
      go false r = r

  pub none_of_is : (f : A → Bool) (xs : List A) {p : A} → some_of f xs ≡ false → Memᴰ p xs → f p ≡ false
  none_of_is f xs {p} e m = is_no (f p) (λ h. not-both (is_some_of f m h) e)

  pub is_none_of : (f : A → Bool) (xs : List A) → ((p : A) → Memᴰ p xs → f p ≡ false) → some_of f xs ≡ false
  is_none_of f xs h = is_no (some_of f xs) (λ e. let s = some_of_is f xs e in not-both s.2 (h s.0 s.1))

  pub all_of_is : (f : A → Bool) {p : A} (xs : List A) → all_of f xs ≡ true → Memᴰ p xs → f p ≡ true
  unfolding all_of
  all_of_is f xs e (Memᴰ.head {x} {xs = ys} h) = ap f h ∙ (both_yes (f x) (all_of f ys) e).0
  all_of_is f xs e (Memᴰ.tail {x} {xs = ys} m) = all_of_is f ys (both_yes (f x) (all_of f ys) e).1 m

  pub is_all_of : (f : A → Bool) (xs : List A) → ((p : A) → Memᴰ p xs → f p ≡ true) → all_of f xs ≡ true
  unfolding all_of
  is_all_of f [] h = refl
  is_all_of f (x ∷ xs) h = yes_both (h x (Memᴰ.head refl)) (is_all_of f xs (λ p m. h p (Memᴰ.tail m)))

  -- ---- the first place that passes

  pub first_place_in : (f : A → Bool) (xs : List A) → some_of f xs ≡ true → first_place f xs < length xs
  unfolding first_place some_of
  first_place_in f [] e = absurd (false≢true e)
  first_place_in f (x ∷ xs) e = go (f x) e (λ h. first_place_in f xs h)
    where
      go : (b : Bool) → (b || some_of f xs) ≡ true → (some_of f xs ≡ true → first_place f xs < length xs)
          → cond b zero (suc (first_place f xs)) < suc (length xs)
      go true e r = omega arith
      go false e r = omega (arith, r e)

  pub first_place_passes : (f : A → Bool) (xs : List A) (d : A) → some_of f xs ≡ true → f (get_or xs (first_place f xs) d) ≡ true
  unfolding first_place some_of
  first_place_passes f [] d e = absurd (false≢true e)
  first_place_passes f (x ∷ xs) d e = go (f x) refl e (λ h. first_place_passes f xs d h)
    where
      go : (b : Bool) → f x ≡ b → (b || some_of f xs) ≡ true → (some_of f xs ≡ true → f (get_or xs (first_place f xs) d) ≡ true)
          → f (get_or (x ∷ xs) (cond b zero (suc (first_place f xs))) d) ≡ true
      go true q e r = q
      go false q e r = r e

  pub first-place-first : (f : A → Bool) (xs : List A) (d : A) (i : ℕ) → i < first_place f xs → f (get_or xs i d) ≡ false
  unfolding first_place
  first-place-first f [] d i h = absurd (omega arith)
  first-place-first f (x ∷ xs) d zero h = go (f x) refl h
    where
      go : (b : Bool) → f x ≡ b → zero < cond b zero (suc (first_place f xs)) → f x ≡ false
      go true q h = absurd (omega arith)
      go false q h = q
  first-place-first f (x ∷ xs) d (suc i) h = first-place-first f xs d i (go (f x) h)
    where
      go : (b : Bool) → suc i < cond b zero (suc (first_place f xs)) → i < first_place f xs
      go true h = absurd (omega arith)
      go false h = omega arith

  pub no_first_place : (f : A → Bool) (xs : List A) → some_of f xs ≡ false → first_place f xs ≡ length xs
  unfolding first_place some_of
  no_first_place f [] e = refl
  no_first_place f (x ∷ xs) e = go (f x) e (λ h. no_first_place f xs h)
    where
      go : (b : Bool) → (b || some_of f xs) ≡ false → (some_of f xs ≡ false → first_place f xs ≡ length xs)
          → cond b zero (suc (first_place f xs)) ≡ suc (length xs)
      go true e r = absurd (true≢false e)
      go false e r = ap suc (r e)

  -- a place that passes, with none before it that does, is the first
  pub is-first-place : (f : A → Bool) (xs : List A) (d : A) (i : ℕ) → i < length xs → f (get_or xs i d) ≡ true
      → ((k : ℕ) → k < i → f (get_or xs k d) ≡ false) → first_place f xs ≡ i
  unfolding first_place
  is-first-place f [] d i h y n = absurd (omega arith)
  is-first-place f (x ∷ xs) d zero h y n = rw y refl
  is-first-place f (x ∷ xs) d (suc i) h y n =
      rw (n zero (omega arith)) (ap suc (is-first-place f xs d i (omega arith) y (λ k l. n (suc k) (omega arith))))

  -- ---- lists alike

  pub alike_equal : (test : A → A → Bool) → ((x y : A) → test x y ≡ true → x ≡ y) → (xs ys : List A) → alike test xs ys ≡ true → xs ≡ ys
  unfolding alike
  alike_equal test h [] [] e = refl
  alike_equal test h [] (y ∷ ys) e = absurd (false≢true e)
  alike_equal test h (x ∷ xs) [] e = absurd (false≢true e)
  alike_equal test h (x ∷ xs) (y ∷ ys) e =
      let b = both_yes (test x y) (alike test xs ys) e in ap₂ ◌∷◌ (h x y b.0) (alike_equal test h xs ys b.1)

  alike_self : (test : A → A → Bool) → ((x : A) → test x x ≡ true) → (xs : List A) → alike test xs xs ≡ true
  unfolding alike
  alike_self test h [] = refl
  alike_self test h (x ∷ xs) = yes_both (h x) (alike_self test h xs)

  pub equal_alike : (test : A → A → Bool) → ((x : A) → test x x ≡ true) → {xs ys : List A} → xs ≡ ys → alike test xs ys ≡ true
  equal_alike test h {xs} e = subst (λ (l : List A). alike test xs l ≡ true) e (alike_self test h xs)

  -- ---- an involution over a list

  pub map-twice : (f : A → A) → ((x : A) → f (f x) ≡ x) → (xs : List A) → map f (map f xs) ≡ xs
  map-twice f h [] = refl
  map-twice f h (x ∷ xs) = ap₂ ◌∷◌ (h x) (map-twice f h xs)

  pub in_map : (f : A → A) → ((x : A) → f (f x) ≡ x) → {xs : List A} {p : A} → Memᴰ (f p) xs → Memᴰ p (map f xs)
  in_map f h {p} m = Memᴰ.cast (sym (h p)) (Memᴰ.map f m)

  pub map_in : (f : A → A) → ((x : A) → f (f x) ≡ x) → (xs : List A) {p : A} → Memᴰ p (map f xs) → Memᴰ (f p) xs
  map_in f h xs m = let o = Memᴰ.of_map f xs m in Memᴰ.cast (sym (ap f o.2) ∙ h o.0) o.1

  -- ---- the best item, by a test that orders the items with a property P

  pub record Ranks (P : A → Type 0) (beats : A → A → Bool) : Type 0 where
    pub not_itself : (x : A) → P x → beats x x ≡ false
    pub in_turn : (x y z : A) → P x → P y → P z → beats x y ≡ true → beats y z ≡ true → beats x z ≡ true

  -- a stands in the list, and no item of the list beats it
  pub record Best (beats : A → A → Bool) (xs : List A) (a : A) : Type 0 where
    pub given : Memᴰ a xs
    pub unbeaten : (y : A) → Memᴰ y xs → beats y a ≡ false

  module _ {P : A → Type 0} {beats : A → A → Bool} (o : Ranks P beats) where
    -- what beats the best of c and the items after it beats c
    beats-first : (z c : A) (ys : List A) → P z → P c → ((y : A) → Memᴰ y ys → P y) → beats z (best_from beats c ys) ≡ true → beats z c ≡ true
    unfolding best_from
    beats-first z c [] pz pc ps e = e
    beats-first z c (y ∷ ys) pz pc ps e = go (beats y c) refl (λ c' pc' h. beats-first z c' ys pz pc' (λ w m. ps w (Memᴰ.tail m)) h) e
      where
        go : (b : Bool) → beats y c ≡ b → ((c' : A) → P c' → beats z (best_from beats c' ys) ≡ true → beats z c' ≡ true)
            → beats z (best_from beats (cond b y c) ys) ≡ true → beats z c ≡ true
        go true q r e = let py = ps y (Memᴰ.head refl) in o.in_turn z y c pz py pc (r y py e) q
        go false q r e = r c pc e

    best_in : (c : A) (ys : List A) → Memᴰ (best_from beats c ys) (c ∷ ys)
    unfolding best_from
    best_in c [] = Memᴰ.head refl
    best_in c (y ∷ ys) = go (beats y c) (best_in (cond (beats y c) y c) ys)
      where
        go : (b : Bool) → Memᴰ (best_from beats (cond (beats y c) y c) ys) (cond b y c ∷ ys)
            → Memᴰ (best_from beats (cond (beats y c) y c) ys) (c ∷ y ∷ ys)
        go true m = Memᴰ.tail m
        go false m = ⊎_elim Memᴰ.head (λ n. Memᴰ.tail (Memᴰ.tail n)) (Memᴰ.cases_cons m)

    -- c does not beat the best, and nor does an item after it
    first-beats-not : (c : A) (ys : List A) → P c → ((y : A) → Memᴰ y ys → P y) → beats c (best_from beats c ys) ≡ false
    first-beats-not c ys pc ps = is_no (beats c (best_from beats c ys)) (λ h. not-both (beats-first c c ys pc pc ps h) (o.not_itself c pc))

    after-beats-not : (c : A) (ys : List A) → P c → ((y : A) → Memᴰ y ys → P y) → (z : A) → Memᴰ z ys
        → beats z (best_from beats c ys) ≡ false
    unfolding best_from
    after-beats-not c [] pc ps z m = absurd (Memᴰ.not-nil m)
    after-beats-not c (y ∷ ys) pc ps z m = go (beats y c) refl (λ c' pc' n. after-beats-not c' ys pc' later z n) (Memᴰ.cases_cons m)
      where
        py : P y
        py = ps y (Memᴰ.head refl)

        later : (w : A) → Memᴰ w ys → P w
        later w n = ps w (Memᴰ.tail n)

        go : (b : Bool) → beats y c ≡ b → ((c' : A) → P c' → Memᴰ z ys → beats z (best_from beats c' ys) ≡ false) → (z ≡ y) ⊎ Memᴰ z ys
            → beats z (best_from beats (cond b y c) ys) ≡ false
        go true q r (inl e) = subst (λ (w : A). beats w (best_from beats y ys) ≡ false) (sym e) (first-beats-not y ys py later)
        go true q r (inr n) = r y py n
        go false q r (inl e) =
            subst (λ (w : A). beats w (best_from beats c ys) ≡ false) (sym e)
            (is_no (beats y (best_from beats c ys)) (λ h. not-both (beats-first y c ys py pc later h) q))
        go false q r (inr n) = r c pc n

    pub best_from_best : (c : A) (ys : List A) → ((y : A) → Memᴰ y (c ∷ ys) → P y) → Best beats (c ∷ ys) (best_from beats c ys)
    best_from_best c ys ps =
        record {
          given = best_in c ys;
          unbeaten = λ y m. ⊎_elim (λ e. subst (λ (w : A). beats w (best_from beats c ys) ≡ false) (sym e) (first-beats-not c ys pc later))
              (λ n. after-beats-not c ys pc later y n) (Memᴰ.cases_cons m);
        }
      where
        pc : P c
        pc = ps c (Memᴰ.head refl)

        later : (y : A) → Memᴰ y ys → P y
        later y m = ps y (Memᴰ.tail m)

    pub best-is : (xs : List A) {a : A} → ((y : A) → Memᴰ y xs → P y) → best beats xs ≡ some a → Best beats xs a
    unfolding best
    best-is [] ps e = absurd (none-ne-some _ e)
    best-is (x ∷ xs) ps e = subst (λ (b : A). Best beats (x ∷ xs) b) (some-injective _ _ e) (best_from_best x xs ps)

  -- there is a best item exactly if there is an item
  pub best_some : (beats : A → A → Bool) {xs : List A} {p : A} → Memᴰ p xs → (a : A) × (best beats xs ≡ some a)
  unfolding best
  best_some beats (Memᴰ.head {x} {xs} h) = (best_from beats x xs, refl)
  best_some beats (Memᴰ.tail {x} {xs} m) = (best_from beats x xs, refl)

  pub best_none : (beats : A → A → Bool) (xs : List A) {p : A} → best beats xs ≡ none → ¬ Memᴰ p xs
  best_none beats xs e m = let b = best_some beats m in none-ne-some b.0 (sym e ∙ b.1)

pub length-those-map : {A B : Type 0} (f : B → Bool) (g : A → B) (xs : List A) → length (those f (map g xs)) ≡ length (those (λ x. f (g x)) xs)
unfolding those
length-those-map f g [] = refl
length-those-map {A} {B} f g (x ∷ xs) = go (f (g x)) (length-those-map f g xs)
  where
    go : (b : Bool) → length (those f (map g xs)) ≡ length (those (λ y. f (g y)) xs)
        → length (consIf b (g x) (those f (map g xs))) ≡ length (consIf b x (those (λ y. f (g y)) xs))
    go true r = ap suc r
    go false r = r
