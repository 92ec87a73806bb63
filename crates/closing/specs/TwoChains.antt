-- Both chains in one list of places, and the ring that they close to, by its places; what the parts of the code say to each other of them.
-- Assumes nothing.
use Rattle.std.specs.Prelude.{◌≡◌, refl, ◌⊎◌, Bool, true, false, cond, List, ℕ, suc, ◌+◌, ◌-◌, ◌≤◌, ◌<◌, ℤ, ltb, length, get_or}
use Rattle.std.proofs.Common.{arith, ltb-false}
use Rattle.rules.specs.Streams.{Stream}
use Rattle.laws_stack.specs.ClosedPlaces.{ring_at}
use Rattle.walk.specs.TwoRings.{listed_at, Stand}

-- ---- the ring: the upper chain's u places at the front of w, and the lower chain's l places behind them

module _ (es ns fs ms : List ℤ) (w : List ℕ) (u : ℕ) where
  abbrev pub upper_at : ℕ → Stream
  upper_at i = listed_at es ns fs ms false w i

  abbrev pub lower_at : ℕ → Stream
  lower_at i = listed_at es ns fs ms false w (u + i)

  -- the ring's corner i, where the lower chain is kept up to hi
  abbrev pub ring_corner : ℕ → ℕ → Stream
  ring_corner hi i = ring_at upper_at u lower_at hi i

-- where the ring's corner i stands
abbrev pub ring_place : ℕ → ℕ → ℕ → ℕ
ring_place u hi i = cond (ltb i u) i (u + (hi - suc (i - u)))

-- two places of a list
pub record TwoOf (n : ℕ) (w : List ℕ) (i j : ℕ) : Type 0 where
  pub first : i < length w
  pub first_below : get_or w i 0 < n
  pub second : j < length w
  pub second_below : get_or w j 0 < n

-- both chains, of which the upper has a corner if the lower has
pub record Both (n : ℕ) (w : List ℕ) (u l : ℕ) : Type 0 where
  pub stand : Stand n w (u + l)
  pub some : (0 < u) ⊎ (l ≡ 0)

-- n corners of the ring, and room for them
pub record Room (n : ℕ) (w : List ℕ) (u hi m : ℕ) (east north : List ℤ) : Type 0 where
  pub stand : Stand n w (u + hi)
  pub few : m ≤ u + hi
  pub east_room : m ≤ length east
  pub north_room : m ≤ length north

-- ---- the ring's places

pub ring-place-below : (u hi i : ℕ) → i < u + hi → ring_place u hi i < u + hi
ring-place-below u hi i h = go (ltb i u) refl
  where
    go : (b : Bool) → ltb i u ≡ b → cond b i (u + (hi - suc (i - u))) < u + hi
    go true e = h
    go false e = omega (arith, ltb-false i u e)

pub ring-corner-at : (es ns fs ms : List ℤ) (w : List ℕ) (u hi i : ℕ) → listed_at es ns fs ms false w (ring_place u hi i) ≡ ring_corner es ns fs ms w u hi i
ring-corner-at es ns fs ms w u hi i = go (ltb i u)
  where
    go : (b : Bool) → listed_at es ns fs ms false w (cond b i (u + (hi - suc (i - u))))
        ≡ cond b (listed_at es ns fs ms false w i) (listed_at es ns fs ms false w (u + (hi - suc (i - u))))
    go true = refl
    go false = refl
