-- Both chains, over the promise of the entry, by places: what a call that is done leaves in its outputs. Every number reported is that of a sample, the
-- lowest at its position; the first corner is the left end and the last the right end; at every corner between them the outline turns strictly right; no
-- stream lies above an edge; easts rise. The lower chain is the same with every north negated. No other numbers do all this. A call is any that the
-- entry's own promise allows. Assumes nothing.
use Rattle.std.specs.Prelude.{◌≡◌, Bool, ◌||◌, ℕ, zero, suc, ◌-◌, ◌≤◌, ◌<◌, ℤ, pos, ◌≤ℤ◌, ◌<ℤ◌, get_or, take, drop, Result, Ok}
use Rattle.std.proofs.Math.Path.{refl, sym, subst₃, subst⁻¹}
use Rattle.std.proofs.Common.{ap, ◌∙◌, subst, subst₂, arith, drop-cons}
use Rattle.std.proofs.Math.Bool.{true, false}
use mathlib.Core.List.{List, [], ◌∷◌, ◌++◌, map, map-map, Memᴰ}
use Rattle.std.proofs.Math.Dec.{ltb}
use Rattle.std.proofs.Math.ListN.{length, length-map}
use Rattle.std.proofs.Math.Seq.{split_at, ext_get_or}
use contract.Lifetimes.{Lfts}
use denote.Triple.Clauses.{AtExit}
use borrow.Fn.Kinds.{Dens, ended_of}
use borrow.Author.Tests.{ltb-true, ltb-false, eqb-true, not-false}
use Rattle.rules.specs.Streams.{Stream, stream, streams, sample, side, same, mirrored}
use Rattle.rules.specs.Chain.{Samples, Of, LeftEnd, RightEnd, Edge, Turn, Goes, stop, on, UpperChain, empty, starts, upper, lower, lowest, upper_numbers, lower_numbers}
use Rattle.rules.specs.Refusals.{Answer, refused, done, output_short, output_after}
use Rattle.rules.specs.Entries.{Chains, sample_tests, chains_answer}
use Rattle.laws_outline.specs.ListLaws.{at_place_in, member_counts, is_some_of, first_place_in, first_place_passes, first-place-first, is-first-place, not-both}
use Rattle.laws_outline.specs.SamePosition.{same_equal, equal_same, no_same}
use Rattle.laws_outline.specs.Chains.{upper_is, upper_only, upper-corners, upper-edge, upper-turn}
use Rattle.laws_outline.specs.Numbers.{lower-mirrored}
use Rattle.samples.specs.Samples.{streams-length}
use Rattle.chains.specs.Promise.{counted}
use Rattle.chains.specs.declared.Counts.{Counts}
use Rattle.samples.specs.Answers.{answer_of}
use Rattle.chains.proofs.chains.Kinds as kinds
use Rattle.chains.proofs.chains.Reads as reads
use Rattle.samples.specs.Outputs.{front}
use Rattle.demands.specs.Done.{when_done}
use Rattle.samples.specs.declared.refusals.Refusal.{Refusal}

-- ---- what is demanded of a chain

-- the position of the sample whose number is reported at place k
abbrev pub corner : List Stream → List ℕ → ℕ → Stream
corner xs ks k = sample xs (get_or ks k 0)

-- the numbers ks report the upper chain of the samples xs; the place after k is suc k
pub record IsChain (xs : List Stream) (ks : List ℕ) : Type 0 where
  -- "no samples: both chains empty"; samples have a chain
  pub no_corner : length xs ≡ 0 → length ks ≡ 0
  pub some_corner : 0 < length xs → 0 < length ks
  -- only given streams, each "by the lowest sample number at its position"
  pub number : (k : ℕ) → k < length ks → get_or ks k 0 < length xs
  pub lowest-number : (k : ℕ) → k < length ks → (i : ℕ) → sample xs i ≡ corner xs ks k → get_or ks k 0 ≤ i
  pub given : (k : ℕ) → k < length ks → Memᴰ (corner xs ks k) xs
  -- from the left end to the right end, "left to right"
  pub first : 0 < length ks → LeftEnd (Of xs) (corner xs ks 0)
  pub last : 0 < length ks → RightEnd (Of xs) (corner xs ks (length ks - 1))
  pub east : (k : ℕ) → suc k < length ks → (corner xs ks k).east <ℤ (corner xs ks (suc k)).east
  -- "the outline turns strictly right"
  pub turn : (k : ℕ) → suc (suc k) < length ks → side (corner xs ks k) (corner xs ks (suc k)) (corner xs ks (suc (suc k))) <ℤ pos 0
  -- every stream lies on or below every edge
  pub below : (k : ℕ) → suc k < length ks → (s : Stream) → Memᴰ s xs → side (corner xs ks k) (corner xs ks (suc k)) s ≤ℤ pos 0

-- ---- a call of chains

pub record Call : Type 1 where
  pub lifetimes : Lfts 5
  pub given : Dens lifetimes kinds.ps
  pub answer : Result Counts Refusal
  pub left : AtExit (ended_of 5 kinds.ps kinds.r) lifetimes
  pub promised : reads.Post lifetimes given answer left

-- the samples that it is given, and the two outputs as it leaves them
abbrev pub east : Call → List ℤ
east c = c.given.0.now

abbrev pub north : Call → List ℤ
north c = c.given.1.0.now

abbrev pub samples : Call → List Stream
samples c = streams (east c) (north c)

abbrev pub upper_after : Call → List ℕ
upper_after c = c.left.1.1.0.now

abbrev pub lower_after : Call → List ℕ
lower_after c = c.left.1.1.1.0.now

-- what a call that is done did: the counts are those of the chains, and so many numbers at the front of each output report them; the lower chain with
-- every north negated
pub record Reported (c : Call) (u v : ℕ) : Type 0 where
  pub sample-count : length (samples c) ≡ length c.given.0.now
  pub upper-count : u ≡ length (upper (samples c))
  pub lower-count : v ≡ length (lower (samples c))
  pub upper_long : length (take u (upper_after c)) ≡ u
  pub lower_long : length (take v (lower_after c)) ≡ v
  pub upper-chain : IsChain (samples c) (take u (upper_after c))
  pub lower-chain : IsChain (map mirrored (samples c)) (take v (lower_after c))

-- ---- the lowest number at a position

module _ (xs : List Stream) {s : Stream} (m : Memᴰ s xs) where
  lowest-below : lowest xs s < length xs
  unfolding lowest
  lowest-below = first_place_in (same s) xs (is_some_of (same s) m (equal_same {p = s} refl))

  lowest-there : sample xs (lowest xs s) ≡ s
  unfolding lowest
  lowest-there =
      sym (same_equal s (sample xs (lowest xs s)) (first_place_passes (same s) xs (stream (pos 0) (pos 0)) (is_some_of (same s) m (equal_same {p = s} refl))))

  lowest_least : (i : ℕ) → sample xs i ≡ s → lowest xs s ≤ i
  unfolding lowest
  lowest_least i e = go (ltb i (lowest xs s)) refl
    where
      go : (b : Bool) → ltb i (lowest xs s) ≡ b → lowest xs s ≤ i
      go true h =
          not-both (equal_same (sym e)) (first-place-first (same s) xs (stream (pos 0) (pos 0)) i (ltb-true i (lowest xs s) h))
      go false h = ltb-false i (lowest xs s) h

-- ---- a chain by places

at_place : {A B : Type 0} (f : A → B) (l : List A) (k : ℕ) (d : A) (e : B) → k < length l → get_or (map f l) k e ≡ f (get_or l k d)
at_place f [] k d e h = absurd (omega arith)
at_place f (x ∷ l) zero d e h = refl
at_place f (x ∷ l) (suc k) d e h = at_place f l k d e (omega arith)

-- a corner with what stands before it and after it
around : (C : List Stream) (k : ℕ) → k < length C → C ≡ take k C ++ (sample C k ∷ drop (suc k) C)
around C k l = split_at C k (stream (pos 0) (pos 0)) l

after : (C : List Stream) (k : ℕ) → k < length C → drop k C ≡ sample C k ∷ drop (suc k) C
after C k l = drop-cons C k (stream (pos 0) (pos 0)) l

module _ {S : Samples} where
  first-at : {C : List Stream} → UpperChain S C → 0 < length C → LeftEnd S (sample C 0)
  first-at (empty f) l = absurd (omega arith)
  first-at (starts h g) l = h

  goes_last_at : {p : Stream} {C : List Stream} → Goes S p C → RightEnd S (sample (p ∷ C) (length C))
  goes_last_at (stop h) = h
  goes_last_at (on e t g) = goes_last_at g

  last_at : {C : List Stream} → UpperChain S C → 0 < length C → RightEnd S (sample C (length C - 1))
  last_at (empty f) l = absurd (omega arith)
  last_at (starts {p} {C} h g) l =
      let e : length (p ∷ C) - 1 ≡ length C = omega arith in
      subst⁻¹ (λ (k : ℕ). RightEnd S (sample (p ∷ C) k)) e (goes_last_at g)

  edge_at : {C : List Stream} → UpperChain S C → (k : ℕ) → suc k < length C → Edge S (sample C k) (sample C (suc k))
  edge_at {C} h k l =
      upper-edge (take k C) (sample C k) (sample C (suc k)) (drop (suc (suc k)) C)
      (subst (UpperChain S) (around C k (omega arith) ∙ ap (λ (r : List Stream). take k C ++ (sample C k ∷ r)) (after C (suc k) l)) h)

  turn_at : {C : List Stream} → UpperChain S C → (k : ℕ) → suc (suc k) < length C → side (sample C k) (sample C (suc k)) (sample C (suc (suc k))) <ℤ pos 0
  turn_at {C} h k l =
      upper-turn (take k C) (sample C k) (sample C (suc k)) (sample C (suc (suc k))) (drop (suc (suc (suc k))) C)
      (subst (UpperChain S)
      (around C k (omega arith)
      ∙ ap (λ (r : List Stream). take k C ++ (sample C k ∷ r)) (after C (suc k) (omega arith))
      ∙ ap (λ (r : List Stream). take k C ++ (sample C k ∷ sample C (suc k) ∷ r)) (after C (suc (suc k)) l))
      h)

-- ---- the computed chain does what is demanded

module _ (xs : List Stream) where
  abbrev chain : List Stream
  chain = upper xs

  corner_given : (k : ℕ) → k < length chain → Memᴰ (sample chain k) xs
  corner_given k l = upper-corners (upper_is xs) (sample chain k) (at_place_in chain k (stream (pos 0) (pos 0)) l)

  number_at : (k : ℕ) → k < length chain → get_or (upper_numbers xs) k 0 ≡ lowest xs (sample chain k)
  unfolding upper_numbers
  number_at k l = at_place (lowest xs) chain k (stream (pos 0) (pos 0)) 0 l

  corner_at : (k : ℕ) → k < length chain → corner xs (upper_numbers xs) k ≡ sample chain k
  corner_at k l = ap (sample xs) (number_at k l) ∙ lowest-there xs (corner_given k l)

  pub as_many : length (upper_numbers xs) ≡ length chain
  unfolding upper_numbers
  as_many = length-map chain (lowest xs)

  long : {k : ℕ} → k < length (upper_numbers xs) → k < length chain
  long {k} l = subst (λ (n : ℕ). k < n) as_many l

  none_then : {C : List Stream} → UpperChain (Of xs) C → length xs ≡ 0 → length C ≡ 0
  none_then (empty f) e = refl
  none_then (starts h g) e = absurd (omega (arith, member_counts h.given))

  some_then : {C : List Stream} → UpperChain (Of xs) C → 0 < length xs → 0 < length C
  some_then (empty f) l = absurd (f (sample xs 0) (at_place_in xs 0 (stream (pos 0) (pos 0)) l))
  some_then (starts h g) l = omega arith

  pub upper_demanded : IsChain xs (upper_numbers xs)
  upper_demanded =
      record {
        no_corner = λ e. as_many ∙ none_then (upper_is xs) e;
        some_corner = λ l. subst⁻¹ (λ (n : ℕ). 0 < n) as_many (some_then (upper_is xs) l);
        number = λ k l. subst⁻¹ (λ (n : ℕ). n < length xs) (number_at k (long l)) (lowest-below xs (corner_given k (long l)));
        lowest-number = λ k l i e. subst⁻¹ (λ (n : ℕ). n ≤ i) (number_at k (long l))
            (lowest_least xs (corner_given k (long l)) i (e ∙ corner_at k (long l)));
        given = λ k l. subst⁻¹ (Of xs) (corner_at k (long l)) (corner_given k (long l));
        first = λ l. subst⁻¹ (LeftEnd (Of xs)) (corner_at 0 (long l)) (first-at (upper_is xs) (long l));
        last = λ l.
            subst⁻¹ (RightEnd (Of xs)) (corner_at (length (upper_numbers xs) - 1) (omega (arith, as_many)))
            (subst⁻¹ (λ (n : ℕ). RightEnd (Of xs) (sample chain (n - 1))) as_many (last_at (upper_is xs) (long l)));
        east = λ k l.
            subst₂ (λ (p q : Stream). p.east <ℤ q.east) (sym (corner_at k (omega (arith, long l)))) (sym (corner_at (suc k) (long l)))
            (edge_at (upper_is xs) k (long l)).ahead;
        turn = λ k l.
            subst₃ (λ (p q r : Stream). side p q r <ℤ pos 0) (sym (corner_at k (omega (arith, long l)))) (sym (corner_at (suc k) (omega (arith, long l))))
            (sym (corner_at (suc (suc k)) (long l)))
            (turn_at (upper_is xs) k (long l));
        below = λ k l s m.
            subst₂ (λ (p q : Stream). side p q s ≤ℤ pos 0) (sym (corner_at k (omega (arith, long l)))) (sym (corner_at (suc k) (long l)))
            ((edge_at (upper_is xs) k (long l)).below s m);
      }

-- ---- and no other numbers do

module _ {xs : List Stream} where
  goes_on : (i : ℕ) (ks : List ℕ)
      → ((k : ℕ) → k < length ks → Edge (Of xs) (corner xs (i ∷ ks) k) (corner xs ks k))
      → ((k : ℕ) → suc k < length ks → side (corner xs (i ∷ ks) k) (corner xs ks k) (corner xs ks (suc k)) <ℤ pos 0)
      → RightEnd (Of xs) (corner xs (i ∷ ks) (length ks))
      → Goes (Of xs) (sample xs i) (map (sample xs) ks)
  goes_on i [] edges turns last = stop last
  goes_on i (j ∷ ks) edges turns last =
      on (edges 0 (omega arith)) (turned ks (turns 0)) (goes_on j ks (λ k l. edges (suc k) (omega arith)) (λ k l. turns (suc k) (omega arith)) last)
    where
      turned : (ks : List ℕ) → (1 < suc (length ks) → side (sample xs i) (sample xs j) (corner xs ks 0) <ℤ pos 0)
          → Turn (sample xs i) (sample xs j) (map (sample xs) ks)
      turned [] t = tt
      turned (r ∷ ks) t = t (omega arith)

  is-upper : (ks : List ℕ) → IsChain xs ks → UpperChain (Of xs) (map (sample xs) ks)
  is-upper [] c = empty (λ s m. absurd (let l : 0 < 0 = c.some_corner (member_counts m) in omega arith))
  is-upper (i ∷ ks) c =
      let e : length (i ∷ ks) - 1 ≡ length ks = omega arith in
      starts
      (c.first (omega arith))
      (goes_on i ks
      (λ k l. record {
        from = c.given k (omega arith);
        to = c.given (suc k) (omega arith);
        ahead = c.east k (omega arith);
        below = λ s m. c.below k (omega arith) s m;
      })
      (λ k l. c.turn k (omega arith))
      (subst (λ (k : ℕ). RightEnd (Of xs) (corner xs (i ∷ ks) k)) e (c.last (omega arith))))

  -- a number that is demanded is the lowest at its position
  told-lowest : (ks : List ℕ) → IsChain xs ks → (k : ℕ) → k < length ks → lowest xs (corner xs ks k) ≡ get_or ks k 0
  unfolding lowest
  told-lowest ks c k l =
      is-first-place (same (corner xs ks k)) xs (stream (pos 0) (pos 0)) (get_or ks k 0) (c.number k l) (equal_same {p = corner xs ks k} refl)
      (λ i h. no_same (λ e. absurd (omega (arith, c.lowest-number k l i (sym e)))))

  pub upper_alone : (ks : List ℕ) → IsChain xs ks → ks ≡ upper_numbers xs
  unfolding upper_numbers
  upper_alone ks c =
      sym
      (ap (map (lowest xs)) (upper_only (is-upper ks c))
      ∙ map-map (lowest xs) (sample xs) ks
      ∙ ext_get_or 0 (map (λ k. lowest xs (sample xs k)) ks) ks (length-map ks (λ k. lowest xs (sample xs k)))
      (λ k l. let h : k < length ks = omega (arith, length-map ks (λ (k : ℕ). lowest xs (sample xs k))) in
      at_place (λ k. lowest xs (sample xs k)) ks k 0 0 h ∙ told-lowest ks c k h))

  -- so two lists of numbers that do all this are one
  pub one-chain : (ks js : List ℕ) → IsChain xs ks → IsChain xs js → ks ≡ js
  one-chain ks js c d = upper_alone ks c ∙ sym (upper_alone js d)

-- ---- a call that is done

-- done counts come of a done answer
counted-both : (a : Answer Chains) {n : Counts} → done n ≡ counted a →
    (r : Chains) × (a ≡ done r) × (n.upper ≡ length r.upper) × (n.lower ≡ length r.lower)
counted-both (done r) e = (r, refl, cc, cc)
counted-both (refused number place) e = absurd (let z : ◌≡◌ {A = ℕ} 0 1 = cc in omega arith)

-- THE LAW
pub chains_done : (c : Call) {u v : ℕ} → c.answer ≡ Ok (record { upper = u; lower = v }) → Reported c u v
unfolding chains_answer lower
chains_done c {u} {v} e = go (counted-both (chains_answer es ns out_upper out_lower w) (sym (ap answer_of e) ∙ c.promised.said))
  where
    es : List ℤ
    es = c.given.0.now

    ns : List ℤ
    ns = c.given.1.0.now

    out_upper : List ℕ
    out_upper = c.given.1.1.0.now

    out_lower : List ℕ
    out_lower = c.given.1.1.1.0.now

    w : List ℕ
    w = c.given.1.1.1.1.0.now

    xs : List Stream
    xs = samples c

    both : Chains
    both = record { upper = upper_numbers xs; lower = lower_numbers xs }

    upper_left : chains_answer es ns out_upper out_lower w ≡ done both → length (upper_numbers xs) ≡ u → take u (upper_after c) ≡ upper_numbers xs
    upper_left a h =
        ap (take u) (c.promised.upper_is ∙ ap (λ (t : Answer Chains). output_after (λ r. r.upper) t out_upper) a)
        ∙ front (upper_numbers xs) out_upper u h

    lower_left : chains_answer es ns out_upper out_lower w ≡ done both → length (lower_numbers xs) ≡ v → take v (lower_after c) ≡ lower_numbers xs
    lower_left a h =
        ap (take v) (c.promised.lower-is ∙ ap (λ (t : Answer Chains). output_after (λ r. r.lower) t out_lower) a)
        ∙ front (lower_numbers xs) out_lower v h

    lower_many : length (lower_numbers xs) ≡ length (lower xs)
    lower_many = ap (λ (k : List ℕ). length k) (lower-mirrored xs) ∙ as_many (map mirrored xs) ∙ sym (length-map (upper (map mirrored xs)) mirrored)

    go : (r : Chains) × (chains_answer es ns out_upper out_lower w ≡ done r) × (u ≡ length r.upper) × (v ≡ length r.lower) → Reported c u v
    go (r, a, hu, hv) =
        let says = when_done
        (sample_tests es ns w
        ++ (output_short (ltb (length out_upper) (length (upper_numbers xs)) || ltb (length out_lower) (length (lower_numbers xs))) ∷ []))
        both a in
        let many : length (upper_numbers xs) ≡ u = ap (λ (r : Chains). length r.upper) says.1 ∙ sym hu in
        let many_lower : length (lower_numbers xs) ≡ v = ap (λ (r : Chains). length r.lower) says.1 ∙ sym hv in
        let there = upper_left (a ∙ ap done (sym says.1)) many in
        let there_lower = lower_left (a ∙ ap done (sym says.1)) many_lower in
        record {
          sample-count = streams-length es ns (eqb-true (length es) (length ns) (not-false _ says.0.0));
          upper-count = sym many ∙ as_many xs;
          lower-count = sym many_lower ∙ lower_many;
          upper_long = ap (λ (k : List ℕ). length k) there ∙ many;
          lower_long = ap (λ (k : List ℕ). length k) there_lower ∙ many_lower;
          upper-chain = subst⁻¹ (IsChain xs) there (upper_demanded xs);
          lower-chain = subst⁻¹ (IsChain (map mirrored xs)) (there_lower ∙ lower-mirrored xs) (upper_demanded (map mirrored xs));
        }
