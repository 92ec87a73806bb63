use Rattle.std.proofs.Common.{◌≡◌, Bool, true, false, ℤ, FitsSigned, ◌∙◌, subst, w32, w64, to_z, of_z}
use lib.Ieee.{Float, of_bits, neg, to_signed, binary64, of_int, ne}
use lib.Ieee.Casts.{to_signed_in}
use mir.ValLaws.{to_z-of_z}
use Rattle.door.proofs.Floats.{not-number, too_low, too_high, within, truncates, whole_part_fits, fraction_found, no_fraction, zero_taken, cast_fits, cast_taken}
use Rattle.door.proofs.part.Goals as goal
use Rattle.door.proofs.part.Goals.{then-x-2-via-then-x-2, then-x-2-via-else-x-2+then-x-3}

pub returns-then-x : goal.returns-then-x
returns-then-x c = not-number c.args.x c.if-x.true

pub returns-then-x-2 : goal.returns-then-x-2
unfolding of_bits neg
returns-then-x-2 c = elim c.then-x-2.branch [
  | then-x-2-via-then-x-2 w ↦ too_low c.args.x w.if-x-2.true
  | then-x-2-via-else-x-2+then-x-3 w ↦ too_high c.args.x w.if-x-3.true
]

pub truncating_f64_to_i64-requires : goal.truncating_f64_to_i64-requires
unfolding of_bits neg
truncating_f64_to_i64-requires c =
    let t = truncates c.args.x (within c.args.x c.if-x.false c.if-x-2.false c.if-x-3.false) in
    record { lower_bound = t.0; upper_bound = t.1 }

pub int_to_float-truncating_f64_to_i64 : goal.int_to_float-truncating_f64_to_i64
unfolding of_bits neg
int_to_float-truncating_f64_to_i64 c =
    rw (to_z-of_z w64 c.truncating_f64_to_i64.result (record { sfits = c.truncating_f64_to_i64.type_inv }) ∙ c.truncating_f64_to_i64.ensures)
    (whole_part_fits c.args.x (within c.args.x c.if-x.false c.if-x-2.false c.if-x-3.false))

-- the machine reads the whole part back from its bits
read_back : (x : Float) (r : ℤ) → FitsSigned w64 r → r ≡ to_signed 63 x → (b : Bool) →
    ne (of_int binary64 (to_z w64 (of_z w64 r))) x ≡ b → ne (of_int binary64 (to_signed 63 x)) x ≡ b
read_back x r f e b t = subst (λ (z : ℤ). ne (of_int binary64 z) x ≡ b) (to_z-of_z w64 r f ∙ e) t

pub returns-then-truncating_f64_to_i64-x : goal.returns-then-truncating_f64_to_i64-x
unfolding of_bits neg
returns-then-truncating_f64_to_i64-x c =
    fraction_found c.args.x (within c.args.x c.if-x.false c.if-x-2.false c.if-x-3.false)
    (read_back c.args.x c.truncating_f64_to_i64.result (record { sfits = c.truncating_f64_to_i64.type_inv }) c.truncating_f64_to_i64.ensures true
    c.if-truncating_f64_to_i64-x.true)

pub returns-then-x-4 : goal.returns-then-x-4
unfolding of_bits neg
returns-then-x-4 c =
    let w = within c.args.x c.if-x.false c.if-x-2.false c.if-x-3.false in
    zero_taken c.args.x w
    (no_fraction c.args.x w
    (read_back c.args.x c.truncating_f64_to_i64.result (record { sfits = c.truncating_f64_to_i64.type_inv }) c.truncating_f64_to_i64.ensures false
    c.if-truncating_f64_to_i64-x.false))
    c.if-x-4.true

pub float_to_int-result : goal.float_to_int-result
unfolding of_bits neg
float_to_int-result c =
    let w = within c.args.x c.if-x.false c.if-x-2.false c.if-x-3.false in
    cast_fits c.args.x w
    (no_fraction c.args.x w
    (read_back c.args.x c.truncating_f64_to_i64.result (record { sfits = c.truncating_f64_to_i64.type_inv }) c.truncating_f64_to_i64.ensures false
    c.if-truncating_f64_to_i64-x.false))
    c.if-x-4.false

pub returns : goal.returns
unfolding of_bits neg
returns c =
    let w = within c.args.x c.if-x.false c.if-x-2.false c.if-x-3.false in
    let v = no_fraction c.args.x w
    (read_back c.args.x c.truncating_f64_to_i64.result (record { sfits = c.truncating_f64_to_i64.type_inv }) c.truncating_f64_to_i64.ensures false
    c.if-truncating_f64_to_i64-x.false) in
    rw (to_z-of_z w32 (to_signed 31 c.args.x) (record { sfits = to_signed_in 31 c.args.x }))
    (cast_taken c.args.x w v (cast_fits c.args.x w v c.if-x-4.false))
