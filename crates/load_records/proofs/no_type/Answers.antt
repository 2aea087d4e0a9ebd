-- `load_records::no_type` meets its contract, a law for each exit.
use native.Mathlib.Omega.{arith}
use mathlib.Core.Path.{sym}
use Rattle.load_records.proofs.Tests.{type-low, type-plain, type-class}
use Rattle.load_records.proofs.no_type.Goals as goal

pub returns-then-byte-lt-TYPE_INTEGER : goal.returns-then-byte-lt-TYPE_INTEGER
returns-then-byte-lt-TYPE_INTEGER c = sym (type-low _ _ (omega arith) (omega arith))

pub returns-then-byte-lt-TYPE_CLASS : goal.returns-then-byte-lt-TYPE_CLASS
returns-then-byte-lt-TYPE_CLASS c = sym (type-plain _ _ (omega arith) (omega arith))

pub returns : goal.returns
returns c = sym (type-class _ _ (omega arith))
