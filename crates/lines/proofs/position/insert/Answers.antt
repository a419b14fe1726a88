use Rattle.lines.proofs.Shifts.{written_front, written_rest}
use Rattle.lines.proofs.position.insert.Goals as goal

pub returns : goal.returns
returns g c = record {
  front = written_front c.args.lines.now c.args.count c.args.to c.args.line c.requires.among c.requires.room c.copy_within.new.self c.copy_within.ensures.after;
  past = written_rest c.args.lines.now c.args.count c.args.to c.args.line c.requires.among c.requires.room c.copy_within.new.self c.copy_within.ensures.after;
}
