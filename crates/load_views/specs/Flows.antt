-- What an op's effect sends on, over types and over type bytes.
use Rattle.std.specs.Prelude.{◌≡◌, refl, Bool, true, false, ◌&&◌, List, [], ◌∷◌, ℕ, leb, ltb, length}
use Rattle.std.proofs.Common.{sym, ap, ◌∙◌, arith}
use Rattle.std.proofs.Math.Option.{Option, none, some}
use Rattle.std.proofs.Math.ListN.{length-map}
use borrow.Author.Tests.{leb-true, le-leb}
use Rattle.logic.specs.Choice.{If◌then◌else◌}
use Rattle.values.specs.Types.{Ty, ty_byte}
use Rattle.bytecode.specs.Macro.{shape, Macro}
use Rattle.bytecode.specs.Instructions.{exactly}
use Rattle.bytecode.specs.Rules.{Effect, plain, giving, taking, Flow as FlowIn, on, fork, jump, halt, broken, strip, roomy, flow, lands as lands_in}
use Rattle.load_places.specs.Rules.{Flow, goes, ends, bad, need, push}
use Rattle.logic.specs.Tests.{by-test, halves}
use Rattle.logic.specs.OptionLaws.{by-option}
use Rattle.load_views.specs.View.{ty_on, bytes}
use Rattle.load_views.specs.Stack.{draws, draws-strip, strip-length}
use Rattle.load_views.specs.Shapes.{state}

-- what is sent on from body k: a jump must find its shape
abbrev pub send : Macro → ℕ → FlowIn → Flow
send m k (on s) = state (some s)
send m k (fork s t) = need (lands_in m k t s) (state (some s))
send m k (jump s t) = need (lands_in m k t s) ends
send m k halt = ends
send m k broken = bad

-- ── tests before an op ──
-- a value for each of what may be there, and bad for nothing
module _ {A : Type 0} (F : Option A → Flow) (nothing : bad ≡ F none) where
  pub exact : (t : Bool) (f : Flow) (x : A) → f ≡ F (some x) → need t f ≡ F (exactly t x)
  exact true f x e = e
  exact false f x e = nothing

  pub exact2 : (t u : Bool) (f : Flow) (x : A) → f ≡ F (some x) → need t (need u f) ≡ F (exactly (t && u) x)
  exact2 true u f x e = exact u f x e
  exact2 false u f x e = nothing

-- ── operands ──
module _ (m : Macro) (k h : ℕ) (ts : List Ty) (room : roomy (shape h ts) ≡ true) where
  abbrev pub sends : Effect → Flow
  sends e = send m k (flow e (shape h ts))

  few : leb h 16 ≡ true
  few = (halves (leb h 16) (leb (length ts) 32) room).0

  pub gives_one : (ins : List Ty) (t : Ty) → draws (bytes ins) h (bytes ts) (λ g r. push (ty_byte t) g r) ≡ sends (plain ins (t ∷ []))
  unfolding flow push
  gives_one ins t = draws-strip ins ts h (λ g r. push (ty_byte t) g r) ∙ by-option (strip ins ts) (λ e. rw e)
      (λ r e. rw (e, few, length-map r ty_byte) (by-test (ltb (length r) 32) (λ q. rw q) (λ q. rw q)))

  pub gives_none : (ins : List Ty) → draws (bytes ins) h (bytes ts) goes ≡ sends (plain ins [])
  unfolding flow
  gives_none ins = draws-strip ins ts h goes ∙ by-option (strip ins ts) (λ e. rw e)
      (λ r e. rw (e, few, le-leb (length r) 32 (omega (arith, strip-length ins ts r e, leb-true (length ts) 32 (halves (leb h 16) _ room).1))))

  -- a type that there may be, given and taken
  pub giving-one : (there : Bool) (t : ℕ) (ins : List Ty) → (there ≡ true → ty_byte (ty_on t) ≡ t)
      → need there (draws (bytes ins) h (bytes ts) (λ g r. push t g r)) ≡ sends (giving (If there then some (ty_on t) else none) ins)
  giving-one true t ins e = ap (λ x. draws (bytes ins) h (bytes ts) (λ g r. push x g r)) (sym (e refl)) ∙ gives_one ins (ty_on t)
  giving-one false t ins e = (unfold flow in refl)

  pub taking-one : (there : Bool) (t : ℕ) (ins : List Ty) → (there ≡ true → ty_byte (ty_on t) ≡ t)
      → need there (draws (t ∷ bytes ins) h (bytes ts) goes) ≡ sends (taking (If there then some (ty_on t) else none) ins)
  taking-one true t ins e = ap (λ x. draws (x ∷ bytes ins) h (bytes ts) goes) (sym (e refl)) ∙ gives_none (ty_on t ∷ ins)
  taking-one false t ins e = (unfold flow in refl)
