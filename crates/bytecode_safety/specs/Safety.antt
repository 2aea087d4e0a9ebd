-- Safety: on a macro that passes the loading check the plain machine is never without a next step, and all its states are sound.
-- The terms (Moves, SafeRun, Safe, holds_of, releases_of, open_holds) are in Terms, Passed in the crate loading, sound in bytecode.
use Rattle.std.specs.Prelude.{◌≡◌, true, List, [], ◌∷◌, ℕ, ◌<◌, take}
use Rattle.std.proofs.Math.Path.{refl, ap}
use Rattle.std.proofs.Common.{subst, arith}
use Rattle.std.proofs.Math.Option.{some}
use Rattle.words.specs.Laws.{Bytes}
use Rattle.values.specs.Types.{Ty}
use Rattle.values.specs.Ends.{accepted}
use Rattle.values.specs.Operators.{Unary, unary, Binary, binary, op_type}
use Rattle.values.specs.Values.{Value, ty_of, apply1, apply2}
use Rattle.values.specs.Trace.{Item}
use Rattle.bytecode.specs.Macro.{Macro}
use Rattle.bytecode.specs.Rules.{judge_macro}
use Rattle.bytecode.specs.Machine.{Made, Machine, Stepped, moved, stuck, all_holds, fresh_machine, step}
use Rattle.bytecode.specs.Runs.{run, Feed, runs}
use Rattle.bytecode.specs.Sound.{sound_value, sound}
use Rattle.logic.specs.Lists.{Each}
use Rattle.bytecode_laws.specs.Terms.{Passed}
use Rattle.bytecode_laws.specs.Promises.{passed}
use Rattle.bytecode_safety.specs.Terms.{Fine, occurs, open_holds, Moves, Steps, Reaches, at_once, after, state_after, SafeRun, Safe}
use Rattle.bytecode_safety.specs.Operators.{unary-fine, binary-fine}
use Rattle.bytecode_safety.specs.Running.{safe-any, fresh-sound, safe-run, each-safe, balanced}

-- ── operators ──
-- on operands of the types that it asks, an operator gives a value of its type within 32 bits, or ends by a condition
pub unary-safe : (o : Unary) (v : Value) (t : Ty) → op_type (unary o) (ty_of v ∷ []) ≡ some t → Fine t (apply1 o v)
unary-safe = unary-fine

pub binary-safe : (o : Binary) (v w : Value) (t : Ty) (rs : List Made) → sound_value rs v ≡ true
    → op_type (binary o) (ty_of v ∷ ty_of w ∷ []) ≡ some t → Fine t (apply2 o v w)
binary-safe = binary-fine

module _ (m : Macro) (w : Passed m) where
  -- ── a step ──
  -- progress and preservation: from a sound state there is a next step, and the state after it is sound
  pub step-safe : (bank : ℕ → ℕ) → ((n : ℕ) → bank n < 256) → (s : Machine) → sound m s ≡ true
      → (is : List Item) × (t : Machine) × (step m bank s ≡ moved is t) × Moves m s is t
  step-safe bank low s h = go (step m bank s) (safe-any m w bank low s h)
    where
      go : (x : Stepped) → Steps m s x → (is : List Item) × (t : Machine) × (x ≡ moved is t) × Moves m s is t
      go (moved is t) v = (is, t, refl, v)
      go (stuck why) v = absurd v

  pub fresh-safe : sound m (fresh_machine m) ≡ true
  fresh-safe = fresh-sound m w

  -- so every state that the fresh machine comes to is sound, and so has a next step
  pub reached-safe : {t : Machine} → Reaches m (fresh_machine m) t → sound m t ≡ true
  reached-safe at_once = fresh-safe
  reached-safe (after {t} {u} {is} bank low p e) =
      let q = step-safe bank low t (reached-safe p) in
      let same : q.1 ≡ u = cc (q.2, e) in
      subst (λ x. sound m x ≡ true) same q.3.still-sound

  -- ── runs ──
  pub run-safe : (f : Feed) → Bytes f.readings → (s : Machine) → sound m s ≡ true → SafeRun m f s (run m f.readings f.allowance s)
  run-safe f b s h = (safe-run m w f b s h).0

  pub runs-safe : (fs : List Feed) → Each (λ f. Bytes f.readings) fs → Safe m fs (fresh_machine m) (runs m fs (fresh_machine m))
  runs-safe fs b =
      record {
        each-run = each-safe m w fs b (fresh_machine m) fresh-safe;
        released = λ n c e g.
            let rs = take n (runs m fs (fresh_machine m)) in
            let none_open : open_holds g (fresh_machine m) ≡ 0 = unfold fresh_machine all_holds occurs in refl in
            let all_closed : open_holds g (state_after (fresh_machine m) rs) ≡ 0 = ap (open_holds g) e in
            omega (arith, balanced m w fs b (fresh_machine m) fresh-safe n g);
      }

-- the whole, from the bytes of a macro
pub safety : (l : List ℕ) (m : Macro) → Bytes l → judge_macro l ≡ accepted m
    → (fs : List Feed) → Each (λ f. Bytes f.readings) fs → Safe m fs (fresh_machine m) (runs m fs (fresh_machine m))
safety l m b h fs = runs-safe m (passed l m b h) fs
