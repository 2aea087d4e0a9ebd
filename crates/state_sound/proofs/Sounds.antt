-- Bytes hold a sound state of a macro that passes the loading check exactly where the tests of them pass.
use Rattle.std.specs.Prelude.{◌≡◌, Bool, ◌&&◌, ◌||◌, List, reverse, ℕ, ◌+◌, ◌≤◌, eqb, drop}
use Rattle.std.proofs.Math.Path.{refl, sym, ap}
use Rattle.std.proofs.Common.{◌∙◌, subst, length-drop, get_or-drop}
use Rattle.std.proofs.Math.Bool.{true, false, cond}
use Rattle.std.proofs.Math.Option.{none, some}
use native.Mathlib.Omega.{arith}
use Rattle.std.proofs.Math.Dec.{leb}
use Rattle.std.proofs.Math.ListN.{length, length-reverse}
use Rattle.std.proofs.Math.Seq.{length-take-le}
use borrow.Author.Tests.{eqb-true, eq-eqb, leb-true}
use Rattle.logic.specs.Lists.{all}
use Rattle.logic.specs.Options.{keep, is_some}
use Rattle.logic.specs.Choice.{If◌then◌else◌}
use Rattle.words.specs.Numbers.{byte_at, half_at}
use Rattle.words.specs.Laws.{Bytes}
use Rattle.values.specs.Ends.{accepted, is_condition}
use Rattle.bytecode.specs.Macro.{Macro}
use Rattle.bytecode.specs.Rules.{judge_macro}
use Rattle.bytecode.specs.Machine.{Machine, unwinding, ended, end_by}
use Rattle.bytecode.specs.Sound.{sound_group, sound}
use Rattle.bytecode.specs.State.{part, read_unwinding, decode, holds_at, state_length}
use Rattle.bytecode.specs.Lent.{only_sound, sound_state}
use Rattle.load_places.specs.Search.{Clean}
use Rattle.load_places.specs.Records.{count}
use Rattle.load_places.specs.Rules.{broken}
use Rattle.load_check.specs.Views.{by-test, view, reads-view, Viewed, viewed, passing}
use Rattle.state_sound.specs.Each.{each, each_same}
use Rattle.state_sound.specs.Fits.{groups_fit, plain_fits, stands, activations_in, sound_bytes}
use Rattle.state_sound.proofs.Frames.{all-reverse}
use Rattle.state_sound.proofs.Waiting.{group_at, all-part}
use Rattle.state_sound.proofs.Running.{running-is}

some-if : (m : Macro) (a : Bool) (s : Machine) → is_some (keep (If a then some s else none) (only_sound m)) ≡ cond a (sound m s) false
some-if m true s = by-test (sound m s) (λ p. rw p) (λ p. rw p)
some-if m false s = refl

module _ (m : Macro) (l : List ℕ) (long : length l ≡ state_length) where
  -- a releasing state
  releasing-is : is_some (keep (read_unwinding l) (only_sound m)) ≡ cond (is_condition (byte_at l 1)) (groups_fit l (half_at l 6)) false
  unfolding read_unwinding sound groups_fit
  releasing-is =
      let h = half_at l 6 in
      some-if m (leb h 512) (unwinding (reverse (part holds_at h l)) (end_by (byte_at l 1)))
      ∙ by-test (leb h 512)
      (λ p.
      let q : h ≤ 512 = leb-true h 512 p in
      let d : holds_at ≤ length l = omega arith in
      let n : length (part holds_at h l) ≡ h = length-take-le h (drop holds_at l) (rw (length-drop holds_at l) (omega arith)) in
      let g : all sound_group (part holds_at h l) ≡ each (group_at l) 0 h =
      all-part sound_group h 0 (drop holds_at l) (rw (length-drop holds_at l) (omega arith))
      ∙ each_same _ _ h 0 (λ i r. ap (λ (z : ℕ). leb z 63) (get_or-drop holds_at l (0 + i) 0)) in
      rw (p, length-reverse (part holds_at h l), n, p, all-reverse sound_group (part holds_at h l), g) (joined (is_condition (byte_at l 1)) _))
      (λ p. rw p (nothing (is_condition (byte_at l 1))))
    where
      joined : (a b : Bool) → (a && b) ≡ cond a b false
      joined true b = refl
      joined false b = refl

      nothing : (a : Bool) → false ≡ cond a false false
      nothing true = refl
      nothing false = refl

  ended_is : is_some (keep (some (ended (byte_at l 1))) (only_sound m)) ≡ (eqb (byte_at l 1) 0 || is_condition (byte_at l 1))
  unfolding sound
  ended_is = by-test (eqb (byte_at l 1) 0 || is_condition (byte_at l 1)) (λ p. rw p) (λ p. rw p)

no-each : (f : ℕ → Bool) (a : Bool) → cond a (each f 0 0) false ≡ a
unfolding each
no-each f true = refl
no-each f false = refl

module _ (c l : List ℕ) (seen : Viewed c (view c)) (clean : Clean (broken c) (count c)) (B : Bytes l) (long : length l ≡ state_length) where
  decoded : is_some (keep (decode (view c) l) (only_sound (view c))) ≡ cond (plain_fits c l) (each (stands c l (half_at l 4) (byte_at l 2)) 0 (activations_in l)) false
  unfolding decode plain_fits
  decoded =
      by-test (eqb (byte_at l 0) 0)
      (λ p. rw p (running-is c l seen clean B long))
      (λ p. rw p
      (by-test (eqb (byte_at l 0) 1)
      (λ q. rw q (releasing-is (view c) l long ∙ sym (no-each _ _)))
      (λ q. rw q
      (by-test (eqb (byte_at l 0) 2)
      (λ s. rw s (ended_is (view c) l long ∙ sym (no-each _ _)))
      (λ s. rw s)))))

  state-is : is_some (sound_state (view c) l) ≡ sound_bytes c l
  unfolding sound_state sound_bytes
  state-is = rw (eq-eqb (length l) state_length long) decoded

not-long : (m : Macro) (c l : List ℕ) → eqb (length l) state_length ≡ false → is_some (sound_state m l) ≡ sound_bytes c l
unfolding sound_state sound_bytes
not-long m c l e = rw e

-- for any bytes
pub sounds : (c : List ℕ) (m : Macro) → judge_macro c ≡ accepted m → (l : List ℕ) → Bytes l → is_some (sound_state m l) ≡ sound_bytes c l
sounds c m e l B =
    let p = passing c m e in
    let v = (reads-view c m p.0).0 in
    let seen : Viewed c (view c) = rw v (viewed c m p.0) in
    by-test (eqb (length l) state_length)
    (λ q. subst (λ (x : Macro). is_some (sound_state x l) ≡ sound_bytes c l) v (state-is c l seen p.1 B (eqb-true (length l) state_length q)))
    (λ q. not-long m c l q)
