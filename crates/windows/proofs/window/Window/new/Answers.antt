-- The proof of `new`: what the search leaves open.
use Rattle.std.proofs.Common.{arith}
use Rattle.windows.proofs.Stored.{stored}
use Rattle.windows.proofs.window.Window.new.Goals as goal

pub invariant_of-result : goal.invariant_of-result
invariant_of-result c =
    let width = c.has_width.ensures.0 c.if-not-has_width.false in
    let grid = rw c.if-not-is_uncrossed.false at c.is_uncrossed.ensures.grid in
    stored c.args.intervals.now c.copy_from_slice.new.self c.unwrap-greatest_low.result c.unwrap-least_high.result c.copy_from_slice.ensures.after
    (record {
      valid = record {
        some = omega (arith, c.args.setting.dimension, width);
        uncrossed = c.is_uncrossed.ensures.uncrossed.0 c.if-not-is_uncrossed.false;
        grid = grid;
      };
      few = omega (arith, c.args.setting.dimension, width);
    })
    (rw c.unwrap-greatest_low.ensures at c.first_extreme.ensures.extreme) (rw c.unwrap-least_high.ensures at c.first_extreme-2.ensures.extreme)
