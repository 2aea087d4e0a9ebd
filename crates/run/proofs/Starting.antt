-- What a start gives, by what the loading check told.
use mathlib.Core.Path.{◌≡◌, refl, ap, ◌∙◌}
use mathlib.Core.List.{List}
use mathlib.Core.Option.{some}
use Prim.Native.Nat.{ℕ, ◌+◌, ◌≤◌}
use native.Mathlib.Omega.{arith}
use Rattle.std.specs.Prelude.{Ok, Err}
use lib.ListN.{length}
use borrow.Author.Tests.{eq-eqb, ne_eqb, lt-ltb}
use Rattle.words.specs.Numbers.{byte_at}
use Rattle.words.specs.Laws.{Bytes}
use Rattle.values.specs.Ends.{refusal, Judged, accepted, refused}
use Rattle.values.specs.Refusals.{in_code, refusal_of}
use Rattle.values.specs.declared.Refusal.{Refusal}
use Rattle.bytecode.specs.Macro.{Macro}
use Rattle.bytecode.specs.Instructions.{body_at}
use Rattle.bytecode.specs.Rules.{judge_macro}
use Rattle.bytecode.specs.Machine.{fresh_machine}
use Rattle.bytecode.specs.State.{encode}
use Rattle.bytecode.specs.Lent.{start_on}
use Rattle.bytecode_laws.specs.Promises.{passed, cells-at-most-32}
use Rattle.load_places.specs.Records.{bodies, body_place}
use Rattle.load_places.specs.Index.{Well}
use Rattle.load_check.specs.Lookups.{BodyAt}
use Rattle.load_check.specs.Views.{span-length, Typed, body_on, view, reads-view, some-body, Viewed, viewed, passing}
use Rattle.load_check.specs.Loaded.{loaded_of}
use Rattle.state_write.specs.Fresh.{fresh_with, fresh-is}

-- ── what the loading check told ──
pub passes-by : (j : Judged Macro) → Ok tt ≡ loaded_of j → (m : Macro) × (j ≡ accepted m)
passes-by (accepted m) e = (m, refl)
passes-by (refused r) e = let z : ◌≡◌ {A = ℕ} 0 1 = cc in absurd (omega arith)

refused-by : (j : Judged Macro) (r : Refusal) → Err r ≡ loaded_of j → j ≡ refused (refusal_of r)
refused-by (accepted m) r e = let z : ◌≡◌ {A = ℕ} 0 1 = cc in absurd (omega arith)
refused-by (refused q) r e = let z : r ≡ in_code q = cc in rw z

pub start-refused : (c l : List ℕ) (r : Refusal) → Err r ≡ loaded_of (judge_macro c) → start_on c l ≡ record { verdict = refused (refusal_of r); bytes = l }
unfolding start_on
start-refused c l r e = rw (refused-by (judge_macro c) r e)

module _ (c : List ℕ) (P : Ok tt ≡ loaded_of (judge_macro c)) where
  abbrev macro : Macro
  macro = (passes-by (judge_macro c) P).0

  judged : judge_macro c ≡ accepted macro
  judged = (passes-by (judge_macro c) P).1

  seen : Viewed c macro
  seen = viewed c macro (passing c macro judged).0

  pub well : Well c
  well = seen.well

  pub start-short : (l : List ℕ) → (length l ≡ 24576 → ⊥) → start_on c l ≡ record { verdict = refused (refusal 10 0); bytes = l }
  unfolding start_on
  start-short l n = rw (judged, ne_eqb (length l) 24576 n)

  few : Bytes c → byte_at c (body_place c 0 + 6) ≤ 32
  few B =
      let root = body_on c (body_place c 0) in
      let e : body_at macro 0 ≡ some root = seen.body 0 ∙ rw (lt-ltb 0 (bodies c) (some-body c well)) in
      rw (span-length _ (byte_at c (body_place c 0 + 6)) 0) at (cells-at-most-32 macro (passed c macro B judged) 0 root e)

  -- with the root's place and the count of its cells in hand
  module _ (p n : ℕ) (R : BodyAt c 0 p) (e : n ≡ byte_at c (p + 6)) where
    pub cells-fit : Bytes c → (p + 7 + n ≤ length c) × (n ≤ 32) × Typed c (p + 7) n
    cells-fit B = rw e (R.inside, rw R.is (few B), rw R.is (seen.cell-types 0 (some-body c well)))

    pub start-fresh : (l : List ℕ) → length l ≡ 24576 → (k : List ℕ) → k ≡ encode (fresh_with c (p + 7) n) → start_on c l ≡ record { verdict = accepted tt; bytes = k }
    unfolding start_on
    start-fresh l long k d =
        let v : view c ≡ macro = (reads-view c macro (passing c macro judged).0).0 in
        let f : fresh_with c (p + 7) n ≡ fresh_machine macro = rw (e, R.is) (fresh-is c well ∙ ap fresh_machine v) in
        rw (judged, eq-eqb (length l) 24576 long, d, f)
