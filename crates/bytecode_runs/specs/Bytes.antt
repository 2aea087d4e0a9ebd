-- A run on the bytes of a sound state is a run of the plain machine; so are the runs of a list.
use Rattle.std.specs.Prelude.{◌≡◌, Bool, ℕ, length}
use Rattle.std.proofs.Math.Path.{refl}
use Rattle.std.proofs.Common.{sym, ap, ◌∙◌, subst, arith}
use Rattle.std.proofs.Math.Bool.{true, false}
use mathlib.Core.List.{List, [], ◌∷◌, map}
use Rattle.std.proofs.Math.Option.{Option, none, some}
use borrow.Author.Tests.{eq-eqb}
use Rattle.logic.specs.Options.{keep}
use Rattle.words.specs.Laws.{Bytes}
use Rattle.values.specs.Ends.{Refusal, refusal, accepted}
use Rattle.values.specs.Trace.{Item, readings_in}
use Rattle.bytecode.specs.Macro.{Macro}
use Rattle.bytecode.specs.Rules.{judge_macro}
use Rattle.bytecode.specs.Machine.{Machine, Stuck, moved, stuck, fresh_machine, step}
use Rattle.bytecode.specs.Runs.{Answer, happens, spends, finishes, refuses, halts, run, Feed, runs}
use Rattle.bytecode.specs.Sound.{sound}
use Rattle.bytecode.specs.State.{state_length, encode, decode}
use Rattle.bytecode.specs.Lent.{written, run_refused, start_on, only_sound, sound_state, run_on}
use Rattle.bytecode_laws.specs.Terms.{Passed}
use Rattle.bytecode_layout.specs.Layout.{sound_state-encode}
use Rattle.bytecode_layout.specs.Passing.{sized}
use Rattle.bytecode_safety.specs.Safety.{run-safe}
use Rattle.bytecode_safety.specs.Terms.{Answers, Moves}
use Rattle.bytecode_runs.specs.Terms.{Fed, runs_on, on_bytes, NoneSound}

-- what is written after an answer that is allowed
written_is : (f : Feed) (s t : Machine) (a : Answer) → Answers f s a t → written a t (encode s) ≡ encode t
written_is f s t (happens e n) h = refl
written_is f s t (spends n) h = refl
written_is f s t (finishes c n) h = refl
written_is f s t (refuses r) h = ap encode (sym h.2)
written_is f s t (halts why) h = absurd h

module _ (code : List ℕ) (m : Macro) (h : judge_macro code ≡ accepted m) (w : Passed m) where
  pub run_is : (f : Feed) → Bytes f.readings → (s : Machine) → sound m s ≡ true
      → run_on code (encode s) f.readings f.allowance ≡ on_bytes (run m f.readings f.allowance s)
  unfolding run_on
  run_is f b s q =
      let r = run m f.readings f.allowance s in
      rw (h, sound_state-encode m (sized m w) s q)
      (ap (λ l. record { answer = r.answer; bytes = l; readings = readings_in r.trace }) (written_is f s r.state r.answer (run-safe m w f b s q).answers))

  pub runs-are : (fs : List Feed) → Fed fs → (s : Machine) → sound m s ≡ true → runs_on code fs (encode s) ≡ map on_bytes (runs m fs s)
  unfolding runs_on runs
  runs-are [] b s q = refl
  runs-are (f ∷ fs) b s q =
      let r = run m f.readings f.allowance s in
      rw (run_is f b.0 s q) (ap (λ x. on_bytes r ∷ x) (runs-are fs b.1 r.state (run-safe m w f b.0 s q).still-sound))

-- a start on bytes of the right length
pub started : (code : List ℕ) (m : Macro) → judge_macro code ≡ accepted m → (l : List ℕ) → length l ≡ state_length
    → ((start_on code l).verdict ≡ accepted tt) × ((start_on code l).bytes ≡ encode (fresh_machine m))
unfolding start_on
started code m h l n = rw (h, eq-eqb (length l) state_length n) (refl, refl)

pub not_stuck : (m : Macro) (bank : ℕ → ℕ) (s : Machine) → (is : List Item) × (t : Machine) × (step m bank s ≡ moved is t) × Moves m s is t
    → (why : Stuck) → step m bank s ≡ stuck why → ⊥
not_stuck m bank s (is, t, e, v) why i = let z : ◌≡◌ {A = ℕ} 0 1 = cc (e, i) in absurd (omega arith)

-- ── 10 ──
none-sound : (m : Macro) (o : Option Machine) → ((s : Machine) → o ≡ some s → sound m s ≡ false) → keep o (only_sound m) ≡ none
none-sound m none h = refl
none-sound m (some s) h = rw (h s refl)

not-ten : (f : Feed) (s t : Machine) (a : Answer) → Answers f s a t → a ≡ refuses (refusal 10 0) → ⊥
not-ten f s t a h e = go (subst (λ x. Answers f s x t) e h)
  where
    go : Answers f s (refuses (refusal 10 0)) t → ⊥
    go h = let z : ◌≡◌ {A = ℕ} 10 11 = ap (λ (r : Refusal). r.number) h.1 in absurd (omega arith)

module _ (code : List ℕ) (m : Macro) (h : judge_macro code ≡ accepted m) (w : Passed m) (l : List ℕ) (n : length l ≡ state_length) where
  pub ten-if : (f : Feed) → NoneSound m l → run_on code l f.readings f.allowance ≡ run_refused (refusal 10 0) l
  unfolding run_on sound_state
  ten-if f q = rw (h, eq-eqb (length l) state_length n, none-sound m (decode m l) q)

  pub ten-only : (f : Feed) → Bytes f.readings → (run_on code l f.readings f.allowance).answer ≡ refuses (refusal 10 0) → NoneSound m l
  unfolding run_on sound_state
  ten-only f b e s d = go (sound m s) refl
    where
      go : (x : Bool) → sound m s ≡ x → x ≡ false
      go false q = refl
      go true q =
          let r = run m f.readings f.allowance s in
          let a = (run-safe m w f b s q).answers in
          let i : (run_on code l f.readings f.allowance).answer ≡ r.answer =
          rw (h, eq-eqb (length l) state_length n, d, q) refl in
          absurd (not-ten f s r.state r.answer a (sym i ∙ e))
