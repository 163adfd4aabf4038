use Rattle.std.proofs.Common.{◌≡◌, ◌-◌, [], length}
use Rattle.grammar.specs.Tables.{listed}
use Rattle.books.specs.Reading.{class_lines}
use Rattle.books.specs.Steps.{rest}
use Rattle.books.proofs.reader.Reader.classes.Given as goal

-- What is left gives the whole.
abbrev pub invariant-loop-self : goal.invariant-loop-self
invariant-loop-self g l = record {
  same : l.self.bytes.now ≡ l.fn.self.bytes.now;
  goes : class_lines l.self.bytes.now (g.K.Kind.lawful l.kind) (64 - length (listed l.classes)) (listed l.classes) l.self.at (rest l.self) ≡ class_lines l.fn.self.bytes.now (g.K.Kind.lawful l.kind) 64 [] l.fn.self.at (rest l.fn.self);
}

abbrev pub decreases-loop-self : goal.decreases-loop-self
decreases-loop-self g l = 64 - length (listed l.classes)
