-- What the machine may take of a macro's bytes: the macro that they hold (`bytecode`), read off the places of its records (`load_places`).

-- ── the macro at its places ──
unfoldable pub use Rattle.load_views.specs.View.{view, ty_on}
pub use Rattle.load_views.specs.View.{body_on, class_on, code_on, types_on, bytes, below, Typed, verdict_of}
-- ── bytes that read hold this macro, and the verdict over places is the verdict on it ──
pub use Rattle.load_views.proofs.Views.{Viewed, viewed, passing, judges}
pub use Rattle.load_views.specs.Known.{reads-view, known-class, known-body, some-body, first-rises, type-byte}
-- ── its bodies, classes, instructions and types ──
pub use Rattle.load_views.specs.Bodies.{body-at, in-body, stands, before-end}
pub use Rattle.load_views.specs.Ops.{class-at, class-count}
pub use Rattle.load_views.proofs.Address.{code_at}
pub use Rattle.load_views.specs.Readers.{type_reads}
pub use Rattle.load_views.specs.Stack.{stack-bytes, same_byte, alike-bytes}
-- ── rows of bytes as lists, and tests on both ──
unfoldable pub use Rattle.load_views.specs.Lists.{span, backs}
pub use Rattle.load_views.specs.Lists.{span-at, span-length, span-snoc, span-take, backs-length, reverse-span}
pub use Rattle.logic.specs.Tests.{tests, by-test, past}
