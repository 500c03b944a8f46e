-- What the loop of `for_each_chunk` keeps from turn to turn.
use Rattle.std.proofs.Common.{◌≡◌, length}
use Rattle.lines.specs.Chunks.{GoesOn}
use Rattle.lines.proofs.chunks.for_each_chunk.Given as goal

abbrev pub invariant-loop-turn : goal.invariant-loop-turn
invariant-loop-turn g l = record {
  callable : goal.F-IsAlwaysCallable g l.take;
  long : length l.buffer ≡ 4096;
  went : GoesOn g.F.FnMut l._turn l.fn.take l.take (g.R.Read.remaining l.fn.input) (g.R.Read.remaining l.input);
}
