use Rattle.std.proofs.Common.{◌≡◌, ◌+◌, ◌-◌, length, refl, arith}
use Rattle.fields.proofs.Places.{patch_from_put, replaces}
use Rattle.fields.proofs.bytes.place.Goals as goal

pub returns : goal.returns
returns c =
    let new = c.args.new.now in
    let span : c.args.at + length new - c.args.at ≡ length new = omega arith in
    let put = patch_from_put c.args.at (length new) new c.args.bytes.now refl in
    record {
      patched = rw (span, c.copy_from_slice.ensures.after) put;
      replaces = rw (span, c.copy_from_slice.ensures.after, put) (replaces c.args.at new c.args.bytes.now c.requires);
    }
