-- What the tests and the walk together tell of a macro and a state.
use mathlib.Core.Path.{◌≡◌, refl, sym, ◌∙◌}
use mathlib.Core.Bool.{Bool, true, false, cond, ◌&&◌, false≢true, true≢false}
use mathlib.Core.List.{List}
use mathlib.Core.Option.{Option, none, some}
use Prim.Native.Nat.{ℕ, ◌<◌, ◌≤◌}
use native.Mathlib.Omega.{arith}
use Rattle.std.specs.Prelude.{Option as Choice, Some, None, Result, Ok, Err}
use lib.ListN.{length}
use lib.Dec.{ltb, leb, eqb}
use borrow.Author.Tests.{eq-eqb, eqb-true, lt-ltb, ltb-true, leb-true}
use Rattle.logic.specs.Options.{is_some}
use Rattle.words.specs.Numbers.{byte_at, half_at}
use Rattle.words.specs.Laws.{Bytes}
use Rattle.values.specs.Ends.{refusal, Judged, accepted, refused as refused_by}
use Rattle.values.specs.Refusals.{refusal_of}
use Rattle.values.specs.declared.Refusal.{Refusal}
use Rattle.bytecode.specs.Macro.{Macro}
use Rattle.bytecode.specs.Rules.{judge_macro}
use Rattle.bytecode.specs.Machine.{Machine}
use Rattle.bytecode.specs.Lent.{sound_state}
use Rattle.load_places.specs.Records.{bodies, count}
use Rattle.load_places.specs.Rules.{Verdict, judge, passes, refused, broken}
use Rattle.load_places.specs.Search.{first}
use Rattle.load_check.specs.Views.{verdict_of, judges}
use Rattle.load_check.specs.Loaded.{loaded_of}
use Rattle.load_check.proofs.LoadedLaws.{small}
use Rattle.state_sound.specs.Each.{each, each-get, each-alike, each_none}
use Rattle.state_sound.specs.Fits.{body_in, depth_in, open_in, address_in, held, groups_fit, record_fits, frame_fits, running_fits, plain_fits, stands, activations_in, sound_bytes}
use Rattle.logic.specs.Tests.{no-else}
use Rattle.state_sound.proofs.Decoded.{cell_count}
use Rattle.state_sound.proofs.Sounds.{sounds}
use Rattle.state_check.specs.Tested.{AnyCounted, fit_before, Tests}
use Rattle.state_check.specs.Inspecting.{records_in, sized_fits, Placed, Tells, Held, NotHeld, Inspects}
use Rattle.state_check.proofs.TypeRows.{by-test}
use Rattle.bytecode.specs.State.{state_length}

-- ── a running state that passes ──
pub record Running (c l : List ℕ) (n r : ℕ) : Type 0 where
  pub few : n ≤ 32
  pub small : r ≤ 256
  pub frames : (k : ℕ) → k < n → (body_in l k < bodies c) × (address_in l k < count c)

frame-known : (c l : List ℕ) (r n k : ℕ) → frame_fits c l r n k ≡ true → (body_in l k < bodies c) × (address_in l k < count c)
unfolding frame_fits
frame-known c l r n k e =
    let a = no-else (ltb (body_in l k) (bodies c)) _ e in
    let b = no-else (leb (cell_count c l k) 32) _ a.1 in
    let d = no-else (leb (depth_in l k) 32) _ b.1 in
    let f = no-else (leb (open_in l k) 16) _ d.1 in
    let g = no-else (ltb (address_in l k) (count c)) _ f.1 in
    (ltb-true _ _ a.0, ltb-true _ _ g.0)

running-known : (c l : List ℕ) (n r h : ℕ) → running_fits c l n r h ≡ true → Running c l n r
unfolding running_fits
running-known c l n r h e =
    let t1 = no-else (leb 1 n) _ e in
    let t2 = no-else (leb n 32) _ t1.1 in
    let t3 = no-else (leb r 256) _ t2.1 in
    let t4 = no-else (eqb (body_in l 0) 0) _ t3.1 in
    let t5 = no-else (eqb (held l n) h) _ t4.1 in
    let t6 = no-else (groups_fit l h) _ t5.1 in
    let t7 = no-else (each (record_fits c l r) 0 r) (each (frame_fits c l r n) 0 n) t6.1 in
    record { few = leb-true n 32 t2.0; small = leb-true r 256 t3.0; frames = λ k p. frame-known c l r n k (each-get (frame_fits c l r n) n t7.1 k p) }

plain_known : (c l : List ℕ) → plain_fits c l ≡ true → eqb (byte_at l 0) 0 ≡ true → Running c l (byte_at l 2) (half_at l 4)
unfolding plain_fits
plain_known c l e z = running-known c l (byte_at l 2) (half_at l 4) (half_at l 6) (rw z at e)

-- ── what the walk is to test is within the limits ──
sized : (c l : List ℕ) → sized_fits c l ≡ true → (length l ≡ state_length) × (plain_fits c l ≡ true)
sized c l e = let a = no-else (eqb (length l) state_length) (plain_fits c l) e in (eqb-true _ _ a.0, a.1)

pub wanted : (c l : List ℕ) (p : Bool) (n r : ℕ) → p ≡ sized_fits c l → n ≡ cond p (activations_in l) 0 → r ≡ cond p (records_in l) 0 → Running c l n r
wanted c l false n r e a b = record { few = omega arith; small = omega arith; frames = λ k q. absurd (omega arith) }
wanted c l true n r e a b =
    by-test (eqb (byte_at l 0) 0)
    (λ z. let a' : n ≡ byte_at l 2 = rw z at a in let b' : r ≡ half_at l 4 = rw z at b in rw (a', b') (plain_known c l (sized c l (sym e)).1 z))
    (λ z. let a' : n ≡ 0 = rw z at a in let b' : r ≡ 0 = rw z at b in
    record { few = omega arith; small = omega arith; frames = λ k q. absurd (omega arith) })

pub long : (c l : List ℕ) (p : Bool) → p ≡ sized_fits c l → p ≡ true → length l ≡ state_length
long c l p e t = (sized c l (sym e ∙ t)).0

pub counted : (c l : List ℕ) (p : Bool) (n r : ℕ) → p ≡ sized_fits c l → n ≡ cond p (activations_in l) 0 → Running c l n r → AnyCounted c l n
counted c l false n r e a R s = absurd (omega arith)
counted c l true n r e a R s = record { long = long c l true e refl; few = R.few; of-bodies = λ k p. (R.frames k p).0 }

-- all activations stand at addresses of the code
all-before : (c l : List ℕ) (r n : ℕ) → Running c l n r → fit_before c l r n (count c) ≡ each (stands c l r n) 0 n
all-before c l r n R = each-alike _ _ n (λ k p. rw (lt-ltb (address_in l k) (count c) (R.frames k p).1))

pub sound-is : (c l : List ℕ) (p ok : Bool) (n r : ℕ) → p ≡ sized_fits c l → n ≡ cond p (activations_in l) 0 → r ≡ cond p (records_in l) 0
    → ok ≡ fit_before c l r n (count c) → (p && ok) ≡ sound_bytes c l
unfolding sound_bytes
sound-is c l false ok n r e a b f =
    by-test (eqb (length l) state_length) (λ t. let e' : false ≡ plain_fits c l = rw t at e in rw (t, ← e')) (λ t. rw t)
sound-is c l true ok n r e a b f =
    let s = sized c l (sym e) in
    rw (eq-eqb (length l) state_length s.0, s.1)
    (f ∙ all-before c l r n (wanted c l true n r e a b) ∙ by-test (eqb (byte_at l 0) 0)
    (λ z. let a' : n ≡ byte_at l 2 = rw z at a in let b' : r ≡ half_at l 4 = rw z at b in rw (a', b', z))
    (λ z. let a' : n ≡ 0 = rw z at a in rw (a', z) (each_none _ ∙ sym (each_none _))))

-- ── what the walk told ──
module _ (c l : List ℕ) (r n : ℕ) (x : Result Bool ℕ) (T : Tests c l r n x) where
  pub walked-bad : (at : ℕ) → x ≡ Err at → (at ≡ first (broken c) (count c)) × (at < count c)
  walked-bad at e = rw e at T

  pub walked : (ok : Bool) → x ≡ Ok ok → (count c ≡ first (broken c) (count c)) × (ok ≡ fit_before c l r n (count c))
  walked ok e = rw e at T

-- ── of the macro and the state ──
never : {A : Type 0} (n k : ℕ) → ◌≡◌ {A = Verdict} (refused n k) passes → A
never n k e = let y : ◌≡◌ {A = ℕ} 0 1 = cc e in absurd (omega arith)

passes-by : (j : Judged Macro) → verdict_of j ≡ passes → (m : Macro) × (j ≡ accepted m)
passes-by (accepted m) e = (m, refl)
passes-by (refused_by r) e = never r.number r.place e

refused-by : (j : Judged Macro) (n k : ℕ) → verdict_of j ≡ refused n k → j ≡ refused_by (refusal n k)
refused-by (accepted m) n k e = never n k (sym e)
refused-by (refused_by r) n k e =
    let a : r.number ≡ n = cc e in let b : r.place ≡ k = cc e in rw (← a, ← b)

module _ (c l : List ℕ) where
  accepts : judge c ≡ passes → (m : Macro) × (judge_macro c ≡ accepted m)
  accepts e = passes-by (judge_macro c) (sym (judges c) ∙ e)

  pub refuses : (n k : ℕ) → judge c ≡ refused n k → judge_macro c ≡ refused_by (refusal n k)
  refuses n k e = refused-by (judge_macro c) n k (sym (judges c) ∙ e)

  is_held : (m : Macro) → judge_macro c ≡ accepted m → (o : Option Machine) → sound_state m l ≡ o → is_some o ≡ true → Held c l
  is_held m e none q s = absurd (false≢true s)
  is_held m e (some x) q s = record { macro = m; passes = e; state = x; sound = q }

  not-held : (m : Macro) → judge_macro c ≡ accepted m → (o : Option Machine) → sound_state m l ≡ o → is_some o ≡ false → NotHeld c l
  not-held m e none q s = record { macro = m; passes = e; unsound = q }
  not-held m e (some x) q s = absurd (true≢false s)

  pub told : Bytes l → (bx cx : List ℕ) (x : Result (Choice ℕ) Refusal) → Tells c l bx cx x → Inspects c l bx cx x
  told B bx cx (Ok (Some base)) t =
      let a = accepts t.0 in (is_held a.0 a.1 (sound_state a.0 l) refl (sounds c a.0 a.1 l B ∙ t.1), t.2)
  told B bx cx (Ok None) t =
      let a = accepts t.0 in not-held a.0 a.1 (sound_state a.0 l) refl (sounds c a.0 a.1 l B ∙ t.1)
  told B bx cx (Err r) t = refuses r.number r.place t

  -- a place fits the field that holds it
  pub place-fits : Bytes c → (n k : ℕ) → judge c ≡ refused n k → k < 4294967296
  place-fits B n k e = let h = small c B n k (sym e) in omega (arith, h.1)

-- ── of the macro alone, whatever bytes it was judged beside ──
module _ (c l bx cx : List ℕ) (x : Result (Choice ℕ) Refusal) (I : Inspects c l bx cx x) where
  pub loads-passed : (o : Choice ℕ) → x ≡ Ok o → Ok tt ≡ loaded_of (judge_macro c)
  loads-passed (Some base) e = let H : Held c l × Placed c bx cx base = rw e at I in rw H.0.passes
  loads-passed None e = let H : NotHeld c l = rw e at I in rw H.passes

  pub loads-refused : (r : Refusal) → x ≡ Err r → Err r ≡ loaded_of (judge_macro c)
  loads-refused r e = let H : judge_macro c ≡ refused_by (refusal_of r) = rw e at I in rw H
