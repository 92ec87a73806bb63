-- Bytes put into a buffer one run after another: what each leaves, and that two runs are the run of both.
-- Assumes nothing.
use Rattle.std.specs.Prelude.{◌≡◌, refl, List, [], ◌∷◌, ◌++◌, ℕ, suc, ◌+◌, ◌≤◌, ◌<◌, length, get_or, take, drop, set}
use Rattle.std.proofs.Common.{sym, ap, ap₂, ◌∙◌, append_assoc, zero-add, add-zero, add-one, arith, length-append, length-drop, take-append-drop, take-suc, drop-drop, length-take-le, take_at, drop_at}
use Rattle.rules.specs.Lists.{written}
use Rattle.std.proofs.Math.Seq.{append_snoc}
use Rattle.std.proofs.lemmas.List.{set_split, set_at}

-- the bytes at a place of a buffer, whose content before and after them stays
abbrev pub placed : ℕ → List ℕ → List ℕ → List ℕ
placed at bytes old = take at old ++ (bytes ++ drop (at + length bytes) old)

-- a run of bytes was put at a place of a buffer that has room for it; the next place follows it
pub record Put (bytes : List ℕ) (at : ℕ) (old new : List ℕ) (next : ℕ) : Type 0 where
  pub next_is : next ≡ at + length bytes
  pub room : at + length bytes ≤ length old
  pub content : new ≡ placed at bytes old

module _ (at : ℕ) (old : List ℕ) where
  pub placed_none : placed at [] old ≡ old
  placed_none = rw (add-zero at) (take-append-drop at old)

  pub placed_one : (x : ℕ) → at < length old → set old at x ≡ placed at (x ∷ []) old
  placed_one x h = rw (add-one at) (set_split old at x h)

  module _ (a : List ℕ) (room : at + length a ≤ length old) where
    head_length : length (take at old ++ a) ≡ at + length a
    head_length = length-append (take at old) a ∙ omega (arith, length-take-le at old (omega arith))

    as_two : placed at a old ≡ (take at old ++ a) ++ drop (at + length a) old
    as_two = sym (append_assoc (take at old) a (drop (at + length a) old))

    pub placed-length : length (placed at a old) ≡ length old
    placed-length =
        ap length as_two ∙ length-append (take at old ++ a) (drop (at + length a) old)
        ∙ omega (arith, head_length, length-drop (at + length a) old)

    take-placed : take (at + length a) (placed at a old) ≡ take at old ++ a
    take-placed = ap (take (at + length a)) as_two ∙ take_at (take at old ++ a) (drop (at + length a) old) (at + length a) head_length

    drop-placed : drop (at + length a) (placed at a old) ≡ drop (at + length a) old
    drop-placed = ap (drop (at + length a)) as_two ∙ drop_at (take at old ++ a) (drop (at + length a) old) (at + length a) head_length

    -- a second run after the first
    pub placed_more : (b : List ℕ) → placed (at + length a) b (placed at a old) ≡ placed at (a ++ b) old
    placed_more b =
        let n = at + length a in
        let e : n + length b ≡ at + length (a ++ b) = omega (arith, length-append a b) in
        let tail : drop (n + length b) (placed at a old) ≡ drop (at + length (a ++ b)) old =
        sym (drop-drop (length b) n (placed at a old)) ∙ ap (drop (length b)) drop-placed ∙ drop-drop (length b) n old ∙ ap (λ (k : ℕ). drop k old) e
        in
        ap₂ (λ (x y : List ℕ). x ++ (b ++ y)) take-placed tail
        ∙ append_assoc (take at old) a (b ++ drop (at + length (a ++ b)) old)
        ∙ ap (λ (l : List ℕ). take at old ++ l) (sym (append_assoc a b (drop (at + length (a ++ b)) old)))

    -- a byte before the run
    pub placed_before : (i x : ℕ) → at ≡ suc i → set (placed at a old) i x ≡ placed i (x ∷ a) old
    placed_before i x e =
        let n : at + length a ≡ i + suc (length a) = omega arith in
        let rest = a ++ drop (i + suc (length a)) old in
        rw (n, e, take-suc old i x (omega arith), append_snoc (take i old) (get_or old i x) rest)
        (set_at (take i old) (get_or old i x) rest x i (length-take-le i old (omega arith)))

pub put-length : {bytes : List ℕ} {at next : ℕ} {old new : List ℕ} → Put bytes at old new next → length new ≡ length old
put-length {bytes} {at} {old = old} p = ap length p.content ∙ placed-length at old bytes p.room

-- ---- runs one after another

pub put_none : (at : ℕ) (old : List ℕ) → at ≤ length old → Put [] at old old (at + 0)
put_none at old h = record { next_is = refl; room = omega arith; content = sym (placed_none at old) }

pub put_one : (at : ℕ) (old : List ℕ) (x : ℕ) → at < length old → Put (x ∷ []) at old (set old at x) (at + 1)
put_one at old x h = record { next_is = refl; room = omega arith; content = placed_one at old x h }

module _ {a b : List ℕ} {at next last : ℕ} {old mid new : List ℕ} where
  pub then : Put a at old mid next → Put b next mid new last → Put (a ++ b) at old new last
  then p q =
      let l = length-append a b in
      let m = put-length p in
      record {
        next_is = omega (arith, p.next_is, q.next_is);
        room = omega (arith, p.next_is, q.room);
        content =
            q.content ∙ ap₂ (λ (i : ℕ) (l : List ℕ). placed i b l) p.next_is p.content
            ∙ placed_more at old a p.room b;
      }

module _ {a : List ℕ} {at next : ℕ} {old mid : List ℕ} (b : List ℕ) where
  -- the room that is left
  pub room_after : Put a at old mid next → at + length (a ++ b) ≤ length old → next + length b ≤ length mid
  room_after p r = omega (arith, length-append a b, put-length p, p.next_is)

-- one byte more of a run
pub put_next : (bytes : List ℕ) (i at : ℕ) {old now : List ℕ} → i < length bytes → at + length bytes ≤ length old →
    Put (take i bytes) at old now (at + i) → Put (take (i + 1) bytes) at old (set now (at + i) (get_or bytes i 0)) (at + (i + 1))
put_next bytes i at {now} h room p =
    let l = put-length p in
    let e : at + i + 1 ≡ at + suc i = omega arith in
    rw (add-one, take-suc bytes i 0 h, ← e) (then p (put_one (at + i) now (get_or bytes i 0) (omega arith)))

pub room_first : (at : ℕ) (a b : List ℕ) {n : ℕ} → at + length (a ++ b) ≤ n → at + length a ≤ n
room_first at a b r = omega (arith, length-append a b)

-- ---- at the front of a buffer

pub at_front : (bytes old : List ℕ) {new : List ℕ} {next : ℕ} → Put bytes 0 old new next → (next ≡ length bytes) × (new ≡ written bytes old)
at_front bytes old p = (p.next_is ∙ zero-add (length bytes), p.content ∙ rw (zero-add (length bytes)) refl)
