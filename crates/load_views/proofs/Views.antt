-- The loading rules over the places in a macro's bytes, which the code computes, are the loading rules over the decoded macro.
use Rattle.std.specs.Prelude.{◌≡◌, refl, false, List, ℕ, ◌+◌, ◌<◌, eqb, length}
use Rattle.std.proofs.Common.{ap, ◌∙◌, subst, arith}
use Rattle.std.proofs.lemmas.Bool.{false≢true}
use Rattle.std.proofs.Math.Option.{some}
use Rattle.std.proofs.Math.ListN.{get_elem?}
use Rattle.words.specs.Numbers.{byte_at}
use Rattle.values.specs.Types.{ty_byte}
use Rattle.values.specs.Ends.{accepted}
use Rattle.bytecode.specs.Macro.{Shape, Macro, shape_in, read_macro}
use Rattle.bytecode.specs.Instructions.{body_at}
use Rattle.bytecode.specs.Rules.{found_at, judge_macro}
use Rattle.load_places.specs.Search.{Clean}
use Rattle.load_places.specs.Records.{classes, bodies, count, class_place, body_place, code_place, read_records}
use Rattle.load_places.specs.Rules.{goes, shape_at, found, into, broken, judge}
use Rattle.load_places.specs.Index.{Well}
use Rattle.logic.specs.OptionLaws.{by-option}
use Rattle.load_views.specs.View.{ty_on, class_on, body_on, code_on, view, below, shape_on, Typed, bytes, verdict_of, result_at, cells_at, fields_at}
use Rattle.load_views.specs.Reading.{macro-told}
use Rattle.load_views.specs.Known.{reads-well, reads-view, known-class, known-body, known-result}
use Rattle.load_views.specs.Bodies.{body-at}
use Rattle.load_views.specs.Shapes.{shape-at, shape_typed}
use Rattle.load_views.specs.Ops.{class-at}
use Rattle.load_views.proofs.Address.{code_at, code-count, agrees, found-clear}
use Rattle.load_views.proofs.Verdict.{verdict-same, code-accepted, passes-clean}

-- the verdict over places is that over the decoded macro
pub judges : (l : List ℕ) → judge l ≡ verdict_of (judge_macro l)
unfolding judge judge_macro
judges l = rw (macro-told l) (verdict-same l (read_records l) refl)

-- m is what stands in the bytes l
pub record Viewed (l : List ℕ) (m : Macro) : Type 0 where
  pub well : Well l
  -- each record is what stands at its place, and there are no more
  pub class : (c : ℕ) → get_elem? m.classes c ≡ below c (classes l) (class_on l (class_place l c))
  pub body : (k : ℕ) → body_at m k ≡ below k (bodies l) (body_on l (body_place l k))
  pub code : (i : ℕ) → get_elem? m.code i ≡ below i (count l) (code_on l (code_place l i))
  pub codes : length m.code ≡ count l
  pub shaped : (i : ℕ) → shape_in m.shapes i ≡ shape_on l (shape_at l i)
  -- the types that stand there are the bytes that stand there
  pub class-types : (c : ℕ) → c < classes l → Typed l (class_place l c + 3) (fields_at l c)
  pub result-type : (k : ℕ) → k < bodies l → eqb (result_at l k) 0 ≡ false → ty_byte (ty_on (result_at l k)) ≡ result_at l k
  pub cell-types : (k : ℕ) → k < bodies l → Typed l (body_place l k + 7) (cells_at l k)
  pub shape-types : (i : ℕ) → eqb (shape_at l i) 0 ≡ false → Typed l (shape_at l i + 6) (byte_at l (shape_at l i + 5))
  -- where no address has a fault, the state found at an address is the same
  pub founds : Clean (broken l) (count l) → (i : ℕ) → i < count l
      → (s : Shape) × (found_at m i ≡ some s) × (found l i (into l i) ≡ goes s.holds (bytes s.operands))

viewed-view : (l : List ℕ) → Well l → Viewed l (view l)
viewed-view l w = record {
  well = w;
  class = class-at l;
  body = body-at l;
  code = code_at l;
  codes = code-count l;
  shaped = shape-at l w;
  class-types = known-class l w;
  result-type = known-result l w;
  cell-types = λ k h. (known-body l w k h).cells;
  shape-types = shape_typed l w;
  founds = λ c i h.
      let g = agrees l w i h (λ k b. c k (omega arith)) in
      by-option (found_at (view l) i) (λ e. absurd (false≢true ((rw e at g.reached))))
      (λ s e. (s, e, found-clear l w i h g (c i h) ∙ rw e));
}

-- a macro that is read is what stands in its bytes
pub viewed : (l : List ℕ) (m : Macro) → read_macro l ≡ accepted m → Viewed l m
viewed l m e = let r = reads-view l m e in subst (λ x. Viewed l x) r.0 (viewed-view l (reads-well l r.1))

-- a macro that passes is read, and no address has a fault
pub passing : (l : List ℕ) (m : Macro) → judge_macro l ≡ accepted m → (read_macro l ≡ accepted m) × Clean (broken l) (count l)
unfolding judge judge_macro
passing l m e = (code-accepted m (read_macro l) e, passes-clean l (read_records l) (judges l ∙ ap verdict_of e))
