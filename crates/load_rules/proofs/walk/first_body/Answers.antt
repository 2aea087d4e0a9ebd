-- `load_rules::walk::first_body` meets its contract.
use Rattle.load_records.proofs.Known.{head_of}
use Rattle.load_rules.proofs.Walking.{body-none}
use Rattle.load_rules.proofs.walk.first_body.Goals as goal

pub body_at-q-requires : goal.body_at-q-requires
body_at-q-requires c =
    (c.requires, (head_of _ c.requires.well).some-bodies)

pub end_of-end-requires : goal.end_of-end-requires
end_of-end-requires c =
    (c.requires, (head_of _ c.requires.well).some-bodies)

pub returns : goal.returns
returns c =
    record {
      is = body-none _;
      counted = (head_of _ c.requires.well).some-bodies;
      from = rw (← c.body_at-q.ensures.is) c.half_at-first.ensures.0;
      upto = c.end_of-end.ensures;
    }
