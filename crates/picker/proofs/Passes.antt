-- What the passes over keys keep: keys counted beside a pivot, those on one side of it kept, the least key taken out. Each has its laws: at the start, after one
-- more key, at the end. Assumes nothing.
use mathlib.Core.Path.{◌≡◌, refl, ap, ◌∙◌, subst₂}
use mathlib.Core.Bool.{Bool, true, false, cond, not}
use mathlib.Core.List.{List, [], ◌∷◌, ◌++◌}
use Prim.Native.Nat.{ℕ, ◌+◌, ◌-◌, ◌≤◌, ◌<◌, min, max}
use native.Mathlib.Omega.{arith}
use mir.Val.{bool_byte}
use borrow.Author.Tests.{leb-true, leb-false}
use lib.Dec.{leb, ltb}
use lib.ListN.{length, get_or, take, drop, set, length-take, length-set}
use lib.Seq.{drop-cons, get_or-set_other, length-take-le}
use native.Mathlib.Numerals.{add-one}
use Rattle.std.proofs.lemmas.List.{take-append-le}
use Rattle.laws_ranks.specs.Counts.{count, count-le-length, count-append}
use Rattle.laws_ranks.specs.Kept.{byte_is, first_more, stored, Kept, kept_none, kept_more, kept-most}
use Rattle.laws_ranks.specs.Ranks.{HasRank, under, over}
use Rattle.laws_ranks.specs.RanksAmong.{OrderOn, order_on}
use Rattle.laws_ranks.specs.Least.{LeastOut, Sought, out_one, out_more, sought_here, sought_next}
use Rattle.laws_ranks.specs.Numbers.{natural_order, natural_under}
use Rattle.picker.specs.Picking.{Counted}

-- ---- keys counted

-- the counts of the keys passed, with those of the keys to come, are the counts of all
pub record Counting (keys rest : List ℕ) (p below above : ℕ) : Type 0 where
  pub below-all : below + count (under leb p) rest ≡ count (under leb p) keys
  pub above-all : above + count (over leb p) rest ≡ count (over leb p) keys

module _ {p : ℕ} {keys : List ℕ} where
  module _ {rest : List ℕ} {b a : ℕ} (t : Counting keys rest p b a) where
    pub below_within : b ≤ length keys
    below_within = omega (arith, t.below-all, count-le-length (under leb p) keys)

    pub above-within : a ≤ length keys
    above-within = omega (arith, t.above-all, count-le-length (over leb p) keys)

    -- a run of keys more
    pub counting_on : {run left : List ℕ} {c d : ℕ} → rest ≡ run ++ left → Counted run p c d → Counting keys left p (b + c) (a + d)
    counting_on {run} {left} split u =
        record {
          below-all = omega (arith, t.below-all, u.below-is, ap (count (under leb p)) split, count-append (under leb p) run left);
          above-all = omega (arith, t.above-all, u.above-is, ap (count (over leb p)) split, count-append (over leb p) run left);
        }

    -- every key
    pub counting_all : length rest ≡ 0 → Counted keys p b a
    counting_all none =
        record {
          below-is = omega (arith, t.below-all, count-le-length (under leb p) rest);
          above-is = omega (arith, t.above-all, count-le-length (over leb p) rest);
        }

-- one key more
pub counting_next : {p : ℕ} (keys : List ℕ) {b a i : ℕ}
    → i < length keys
    → Counting keys (drop i keys) p b a
    → Counting keys (drop (i + 1) keys) p (b + bool_byte (ltb (get_or keys i 0) p)) (a + bool_byte (ltb p (get_or keys i 0)))
unfolding count
counting_next {p} keys {i = i} h t = counting_on t (rw (add-one i) (drop-cons keys i 0 h)) (counted_one (get_or keys i 0))
  where
    counted_one : (x : ℕ) → Counted (x ∷ []) p (bool_byte (ltb x p)) (bool_byte (ltb p x))
    counted_one x =
        record {
          below-is = rw (natural_under p x) (omega (arith, byte_is (under leb p x)));
          above-is = rw (natural_under x p) (omega (arith, byte_is (over leb p x)));
        }

-- ---- the keys on one side kept

-- of the first i keys the k that pass the test lie at the front; from i on the list is as it came
pub record Keeping (f : ℕ → Bool) (given now : List ℕ) (i k : ℕ) : Type 0 where
  pub long : length now ≡ length given
  pub rest : (j : ℕ) → i ≤ j → get_or now j 0 ≡ get_or given j 0
  pub kept : Kept f (take i given) k now

module _ {f : ℕ → Bool} {given : List ℕ} where
  pub keeping_none : Keeping f given given 0 0
  keeping_none = record { long = refl; rest = λ j h. refl; kept = kept_none f given }

  module _ {now : List ℕ} {i k : ℕ} (t : Keeping f given now i k) where
    pub kept_few : k ≤ i
    kept_few = omega (arith, kept-most t.kept, length-take i given)

    pub keeping_more : i < length given → {b : Bool} → b ≡ f (get_or now i 0) → Keeping f given (set now k (get_or now i 0)) (i + 1) (k + bool_byte b)
    keeping_more h {b} e =
        let l = t.long in
        let few = kept_few in
        let x = get_or now i 0 in
        record {
          long = length-set now k x ∙ t.long;
          rest = λ j m. get_or-set_other now k j x 0 (λ e. omega arith) ∙ t.rest j (omega arith);
          kept = rw (first_more 0 given i h, ← t.rest i (omega arith)) (kept_more t.kept x b e (omega arith));
        }

-- ---- the least key taken out

-- the least of the first i + 1 keys is p, and the others lie at the front; from i + 1 on the list is as it came
pub record Lifting (given now : List ℕ) (i p : ℕ) : Type 0 where
  pub long : length now ≡ length given
  pub rest : (j : ℕ) → i < j → get_or now j 0 ≡ get_or given j 0
  pub out : LeastOut leb (take (i + 1) given) p (take i now)

pub keys_order : OrderOn (λ (x : ℕ). Unit {0}) leb
keys_order = order_on natural_order

-- the lesser of two keys and the greater, as a test chooses them
lesser_first : (p x : ℕ) (Q : ℕ → ℕ → Type 0) → Q (cond (under leb p x) x p) (cond (under leb p x) p x) → Q (min p x) (max p x)
lesser_first p x Q = go (leb p x) refl
  where
    go : (t : Bool) → leb p x ≡ t → Q (cond (not t) x p) (cond (not t) p x) → Q (min p x) (max p x)
    go true e q = let h = leb-true p x e in subst₂ Q (omega arith) (omega arith) q
    go false e q = let h = leb-false p x e in subst₂ Q (omega arith) (omega arith) q

pub lifting_none : (given : List ℕ) → 1 ≤ length given → Lifting given given 0 (get_or given 0 0)
lifting_none given h =
    record { long = refl; rest = λ j k. refl; out = rw (first_more 0 given 0 h) (out_one keys_order (get_or given 0 0)) }

pub lifting_more : {given now : List ℕ} {i p : ℕ}
    → i + 1 < length given
    → Lifting given now i p
    → Lifting given (set now i (max p (get_or now (i + 1) 0))) (i + 1) (min p (get_or now (i + 1) 0))
lifting_more {given} {now} {i} {p} h t =
    let x = get_or now (i + 1) 0 in
    let l = t.long in
    let left : take (i + 1) (set now i (max p x)) ≡ take i now ++ (max p x ∷ []) = stored now i (max p x) true (omega arith) in
    record {
      long = length-set now i (max p x) ∙ t.long;
      rest = λ j k. get_or-set_other now i j (max p x) 0 (λ e. omega arith) ∙ t.rest j (omega arith);
      out =
          rw (first_more 0 given (i + 1) h, ← t.rest (i + 1) (omega arith), left)
          (lesser_first p x (λ (a b : ℕ). LeastOut leb (take (i + 1) given ++ (x ∷ [])) a (take i now ++ (b ∷ [])))
          (out_more keys_order (λ y m. tt) t.out tt (under leb p x) refl));
    }

-- ---- the least taken out until it has the rank

-- n keys were given, and t - 1 of them are out: one more
pub taken_out : {given : List ℕ} (now after : List ℕ) (n t : ℕ) {r p : ℕ}
    → 1 ≤ t
    → t < r
    → r ≤ n
    → length now ≡ n
    → Sought leb given r (take (n + 1 - t) now) (r + 1 - t)
    → length after ≡ n + 1 - t
    → LeastOut leb (take (n + 1 - t) now) p (take (length (take (n + 1 - t) now) - 1) after)
    → Sought leb given r (take (n + 1 - (t + 1)) (after ++ drop (n + 1 - t) now)) (r + 1 - (t + 1))
taken_out {given} now after n t {r} {p} first more few long s left out =
    let keys : length (take (n + 1 - t) now) ≡ n + 1 - t = length-take-le (n + 1 - t) now (omega arith) in
    let m : n + 1 - (t + 1) ≡ length (take (n + 1 - t) now) - 1 = omega arith in
    let k : r + 1 - (t + 1) ≡ r + 1 - t - 1 = omega arith in
    let fits : length (take (n + 1 - t) now) - 1 ≤ length after = omega arith in
    rw (m, k, take-append-le) (sought_next keys_order (λ y m. tt) s out (omega arith))

-- r - 1 are out: the next has the rank
pub last_out : {given rest : List ℕ} (now : List ℕ) (n : ℕ) {r t p : ℕ}
    → t ≡ r
    → Sought leb given r (take (n + 1 - t) now) (r + 1 - t)
    → LeastOut leb (take (n + 1 - r) now) p rest
    → HasRank leb r given p
last_out now n e s out = (sought_here keys_order (λ y m. tt) (rw e at s) out (omega arith)).1
