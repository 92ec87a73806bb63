use Rattle.std.specs.Prelude.{◌≡◌, ◌∷◌, nat_abs, length}
use Rattle.std.proofs.Common.{ap, ◌∙◌, arith, to_z-of_z}
use Rattle.rules.specs.Program.{minus, printed_natural, printed_whole}
use Rattle.samples.specs.Placed.{then, put-length}
use Rattle.text.specs.PrintedCorners.{whole_negative, whole_other}
use Rattle.text.proofs.printing.put_whole.Goals as goal

pub put_byte-next-requires : goal.put_byte-next-requires
put_byte-next-requires c =
    let n : printed_whole c.args.z ≡ minus ∷ printed_natural (nat_abs c.args.z) =
    whole_negative c.args.z (rw (to_z-of_z c.ranges.z) at c.if-z-lt0.true) in
    omega (arith, ap length n, c.requires)

pub put_natural-requires : goal.put_natural-requires
put_natural-requires c =
    let n : printed_whole c.args.z ≡ minus ∷ printed_natural (nat_abs c.args.z) =
    whole_negative c.args.z (rw (to_z-of_z c.ranges.z) at c.if-z-lt0.true) in
    let p = c.put_byte-next.ensures in
    let m : c.unsigned_abs.result ≡ nat_abs c.args.z = c.unsigned_abs.ensures.value ∙ ap nat_abs (to_z-of_z c.ranges.z) in
    rw m (omega (arith, ap length n, c.requires, p.next_is, put-length p))

pub returns-then-z-lt0 : goal.returns-then-z-lt0
returns-then-z-lt0 c =
    let m : c.unsigned_abs.result ≡ nat_abs c.args.z = c.unsigned_abs.ensures.value ∙ ap nat_abs (to_z-of_z c.ranges.z) in
    rw (whole_negative c.args.z (rw (to_z-of_z c.ranges.z) at c.if-z-lt0.true))
    (then c.put_byte-next.ensures (rw m at c.put_natural.ensures))

pub put_natural-requires-2 : goal.put_natural-requires-2
put_natural-requires-2 c =
    let n : printed_whole c.args.z ≡ printed_natural (nat_abs c.args.z) =
    whole_other c.args.z (rw (to_z-of_z c.ranges.z) at c.if-z-lt0.false) in
    let m : c.unsigned_abs-2.result ≡ nat_abs c.args.z = c.unsigned_abs-2.ensures.value ∙ ap nat_abs (to_z-of_z c.ranges.z) in
    rw m (omega (arith, ap length n, c.requires))

pub returns : goal.returns
returns c =
    let m : c.unsigned_abs-2.result ≡ nat_abs c.args.z = c.unsigned_abs-2.ensures.value ∙ ap nat_abs (to_z-of_z c.ranges.z) in
    rw (whole_other c.args.z (rw (to_z-of_z c.ranges.z) at c.if-z-lt0.false)) (rw m at c.put_natural-2.ensures)
