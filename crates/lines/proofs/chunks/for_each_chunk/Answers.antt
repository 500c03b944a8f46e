-- The proof of `for_each_chunk`: what the search leaves open.
use Rattle.std.proofs.Common.{◌≡◌, take, inl, Ok, Break, Continue, refl, rules, arith, of_calls}
use Rattle.std.specs.Fn.{CalledAt}
use Rattle.lines.proofs.Reading.{GoesOn-push, IsChunk-take, is_break-Break, is_break-Continue}
use Rattle.lines.proofs.chunks.for_each_chunk.Goals as goal

pub returns-in_err-take : goal.returns-in_err-take
returns-in_err-take g c = record {
  count = c.loop-turn._turn;
  going = c.loop-turn.take;
  left = g.R.Read.remaining c.loop-turn.input;
  went = c.loop-turn.invariant.went;
  ending = inl (record {
    chunk = take c.in_ok-count.count c.read.new.buf;
    answer = c.take.result;
    last = c.take.new.self;
    called = search rules;
    size = IsChunk-take c.in_ok-count.count c.read.new.buf (omega arith) (search rules) (search rules);
    whole = c.in_ok-count.ensures.bytes.0;
    told = search rules;
  });
}

pub returns-then-is_break : goal.returns-then-is_break
returns-then-is_break g c = record {
  count = c.loop-turn._turn;
  going = c.loop-turn.take;
  left = g.R.Read.remaining c.loop-turn.input;
  went = c.loop-turn.invariant.went;
  ending = inl (record {
    chunk = take c.in_ok-count.count c.read.new.buf;
    answer = c.take.result;
    last = c.take.new.self;
    called = search rules;
    size = IsChunk-take c.in_ok-count.count c.read.new.buf (omega arith) (search rules) (search rules);
    whole = c.in_ok-count.ensures.bytes.0;
    told = let broken : c.in_ok-take.field-0 ≡ Break tt = is_break-Break c.in_ok-take.field-0 (search rules) in rw (c.in_ok-take.was) (broken, refl);
  });
}

pub loop-turn-preserved : goal.loop-turn-preserved
loop-turn-preserved g c =
    let goes : c.in_ok-take.field-0 ≡ Continue tt = is_break-Continue c.in_ok-take.field-0 (search rules) in
    let said : c.take.result ≡ Ok (Continue tt) = grind arith in
    let called : CalledAt g.F.FnMut c.loop-turn.take (take c.in_ok-count.count c.read.new.buf) c.take.result c.take.new.self = search rules in
    record {
      callable = search of_calls;
      long = search rules;
      went = GoesOn-push g.F.FnMut c.loop-turn._turn c.args.take c.loop-turn.take c.take.new.self _ (g.R.Read.remaining c.loop-turn.input) _ (take c.in_ok-count.count c.read.new.buf)
          c.loop-turn.invariant.went
          (IsChunk-take c.in_ok-count.count c.read.new.buf (omega arith) (search rules) (search rules))
          (rw said at called)
          c.in_ok-count.ensures.bytes.0;
    }
