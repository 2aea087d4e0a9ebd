-- What the machine may take of the record pass: the terms of the lookups' contracts, and what is known of records that read.

-- ── the indexes of bodies and of classes; what is known of the place of one ──
pub use Rattle.load_rules.specs.Moves.{Bodied, Classed, BodyAt, ClassAt}
-- ── the records, each within the macro's bytes and its counts within their limits ──
pub use Rattle.load_records.proofs.Known.{head-known, head_of, class-of, code_of}
-- ── after `scan`: the indexes are ready ──
pub use Rattle.load_records.proofs.Known.{ready}
