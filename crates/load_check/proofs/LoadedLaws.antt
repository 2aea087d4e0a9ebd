-- The verdict on a macro as the code answers it is the one over macros that were read, and its numbers fit the fields that answers are packed into.
use Rattle.std.specs.Prelude.{◌≡◌, refl, List, ℕ, ◌<◌, Err}
use Rattle.std.proofs.Common.{sym, ap, ◌∙◌, subst, arith}
use Rattle.words.specs.Laws.{Bytes}
use Rattle.values.specs.Ends.{Judged, accepted, refused}
use Rattle.values.specs.declared.Refusal.{Refusal}
use Rattle.values.specs.Refusals.{coded}
use Rattle.bytecode.specs.Macro.{Macro}
use Rattle.bytecode.specs.Rules.{judge_macro}
use Rattle.load_places.specs.Rules.{Verdict, judge}
use Rattle.load_places.specs.Rules as places
use Rattle.load_views.specs.View.{verdict_of}
use Rattle.load_views.proofs.Views.{judges}
use Rattle.load_check.specs.Small.{Narrow, narrow}
use Rattle.load_check.specs.Loaded.{loaded_of, told}

pub loads : (l : List ℕ) (v : Verdict) → v ≡ judge l → told v ≡ loaded_of (judge_macro l)
loads l v e = ap told (e ∙ judges l) ∙ go (judge_macro l)
  where
    go : (j : Judged Macro) → told (verdict_of j) ≡ loaded_of j
    go (accepted m) = refl
    go (refused r) = refl

pub small : (l : List ℕ) → Bytes l → (n p : ℕ) → places.refused n p ≡ judge l → (n < 256) × (p < 16777216)
small l b n p e = subst Narrow (sym e) (narrow l b)

-- a refusal's numbers fit the fields that answers are packed into
pub fields : (l : List ℕ) → Bytes l → (r : Refusal) → Err r ≡ loaded_of (judge_macro l) → (r.number < 256) × (r.place < 16777216)
fields l b r e = go (judge l) refl
  where
    go : (v : Verdict) → v ≡ judge l → (r.number < 256) × (r.place < 16777216)
    go places.passes h = let z : ◌≡◌ {A = ℕ} 0 1 = cc (loads l places.passes h, e) in absurd (omega arith)
    go (places.refused m q) h =
        let z : coded m q ≡ r = cc (loads l (places.refused m q) h, e) in
        subst (λ (x : Refusal). (x.number < 256) × (x.place < 16777216)) z (small l b m q h)
