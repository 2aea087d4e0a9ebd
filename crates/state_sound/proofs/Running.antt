-- A running state that is read is sound exactly where the tests of its bytes pass.
use Rattle.std.specs.Prelude.{◌≡◌, Bool, cond, ◌&&◌, eqb, ltb, drop}
use Rattle.std.proofs.Math.Path.{refl, sym}
use Rattle.std.proofs.Common.{◌∙◌}
use Rattle.std.proofs.Math.Bool.{true, false}
use mathlib.Core.List.{List, [], ◌∷◌}
use Rattle.std.proofs.Math.Option.{none, some}
use Prim.Native.Nat.{ℕ, zero, suc, ◌+◌, ◌*◌, ◌≤◌, ◌<◌}
use Rattle.std.proofs.Math.Numerals.{add-one}
use native.Mathlib.Omega.{arith}
use Rattle.std.proofs.Math.Dec.{leb}
use Rattle.std.proofs.Math.ListN.{length, get_elem?}
use borrow.Author.Tests.{leb-true, ltb-true, ltb-false, lt-ltb, le-ltb, le-leb, eq-eqb, eqb-true}
use Rattle.logic.specs.Lists.{all}
use Rattle.logic.specs.Options.{keep, is_some}
use Rattle.logic.specs.Choice.{If◌then◌else◌}
use Rattle.words.specs.Numbers.{byte_at, half_at, word_at}
use Rattle.words.specs.Laws.{Bytes}
use Rattle.values.specs.Types.{Ty}
use Rattle.bytecode.specs.Macro.{Macro}
use Rattle.bytecode.specs.Machine.{Activation, Made, Machine, running, all_holds}
use Rattle.bytecode.specs.Sound.{sound_record, sound_group, sound_activation, calls_body, sound_waiting, sound}
use Rattle.bytecode.specs.State.{part, read_activations, read_records, assemble, read_running, holds_at, records_at, state_length}
use Rattle.bytecode.specs.Lent.{only_sound}
use Rattle.load_places.specs.Search.{tops, Clean}
use Rattle.load_places.specs.Records.{bodies, count, body_place, code_place}
use Rattle.load_places.specs.Rules.{broken}
use Rattle.load_check.specs.Views.{span, backs, span-length, backs-length, reverse-span, tests, by-test, view, bytes, code_at, Viewed}
use Rattle.logic.specs.Tests.{halves, both, no-else, and-false}
use Rattle.state_sound.specs.Each.{each, same_test, each-get, each_all}
use Rattle.state_sound.specs.Fits.{body_in, depth_in, open_in, address_in, held, calls, taken_in, record_fits, cells_fit, frame_fits, groups_fit, running_fits, stands}
use Rattle.state_sound.proofs.Decoded.{record_on, record_reads, records-read, cell_count, holds_on, frame_on, frame_reads, activations-read}
use Rattle.state_sound.proofs.Frames.{Rough, choose, all-span, record-fits, stands-not, frame-fits}
use Rattle.state_sound.proofs.Waiting.{calls-only, group_at, groups-all, holds-all, arguments_on, arguments-bytes, waits_at, waiting-is}

-- ── an activation of n ──
-- the arguments that its call took; whether it stands at a call of the next
abbrev taken_on : List ℕ → List ℕ → ℕ → ℕ → List Ty
taken_on c l n k = If ltb (k + 1) n then arguments_on c l k else []

abbrev calls_next : List ℕ → List ℕ → ℕ → ℕ → Bool
calls_next c l n k = If ltb (k + 1) n then calls_body (get_elem? (view c).code (address_in l k)) (body_in l (suc k)) else true

module _ (c l : List ℕ) (seen : Viewed c (view c)) (clean : Clean (broken c) (count c)) (B : Bytes l) (long : length l ≡ state_length) (r n k : ℕ) (R : Rough c l k)
    (next : k + 1 < n → body_in l (k + 1) < bodies c) where
  taken-bytes : bytes (taken_on c l n k) ≡ tops c (body_place c (body_in l (k + 1)) + 7) (taken_in c l n k)
  unfolding tops
  taken-bytes =
      by-test (ltb (k + 1) n)
      (λ e. rw e (let g : body_in l (suc k) < bodies c = rw (← add-one k) (next (ltb-true _ _ e)) in
      rw (add-one k) (arguments-bytes c l [] seen.well k g)))
      (λ e. rw e)

  calls_same : address_in l k < count c → calls_next c l n k ≡ calls c l n k
  unfolding calls
  calls_same h =
      rw (code_at c (address_in l k), lt-ltb (address_in l k) (count c) h)
      (by-test (ltb (k + 1) n)
      (λ e. rw (e, add-one k) (calls-only (eqb (byte_at c (code_place c (address_in l k) + 2)) 10) (eqb (byte_at c (code_place c (address_in l k) + 3)) 0)
      (eqb (word_at c (code_place c (address_in l k) + 4)) (body_in l (suc k)))))
      (λ e. rw e))

  fits-here : address_in l k < count c → frame_fits c l r n k ≡ cond (calls c l n k) (cells_fit c l r k) false
  unfolding frame_fits
  fits-here h =
      rw (lt-ltb (body_in l k) (bodies c) R.body, le-leb (cell_count c l k) 32 R.cells, le-leb (depth_in l k) 32 R.depth, le-leb (open_in l k) 16 R.open', lt-ltb (address_in l k) (count c) h)

  fits_not : count c ≤ address_in l k → frame_fits c l r n k ≡ false
  unfolding frame_fits
  fits_not h =
      rw (lt-ltb (body_in l k) (bodies c) R.body, le-leb (cell_count c l k) 32 R.cells, le-leb (depth_in l k) 32 R.depth, le-leb (open_in l k) 16 R.open', le-ltb (address_in l k) (count c) h)

  sound-not : count c ≤ address_in l k → sound_activation (view c) (span (record_on c l) 0 r) (taken_on c l n k) (frame_on c l k) ≡ false
  unfolding sound_activation frame_on
  sound-not h = rw (stands-not c seen.well (body_in l k) (address_in l k) R.body h)

  pub frame_same : (frame_reads c l k && (calls_next c l n k && sound_activation (view c) (span (record_on c l) 0 r) (taken_on c l n k) (frame_on c l k)))
      ≡ (frame_fits c l r n k && (stands c l r n k && all sound_group (holds_on c l k)))
  frame_same =
      by-test (ltb (address_in l k) (count c))
      (λ e. let h = ltb-true _ _ e in
      rw (calls_same h, fits-here h) (step (calls c l n k) (frame_reads c l k) _ (cells_fit c l r k) _ (frame-fits c l seen clean B long r n k R (taken_on c l n k) taken-bytes h)))
      (λ e. let h = ltb-false _ _ e in rw (fits_not h, sound-not h, and-false (calls_next c l n k)) (and-false (frame_reads c l k)))
    where
      step : (ca fr sa cf z : Bool) → (fr && sa) ≡ (cf && z) → (fr && (ca && sa)) ≡ (cond ca cf false && z)
      step true fr sa cf z e = e
      step false fr sa cf z e = and-false fr

-- ── all of them ──
-- within the limits, as reading and the tests both ask
pub record Limits (c l : List ℕ) (k : ℕ) : Type 0 where
  pub body : body_in l k < bodies c
  pub cells : cell_count c l k ≤ 32
  pub depth : depth_in l k ≤ 32
  pub open' : open_in l k ≤ 16

module _ (c l : List ℕ) where
  limits-read : (k : ℕ) → frame_reads c l k ≡ true → Limits c l k
  limits-read k e =
      let a = halves (ltb (body_in l k) (bodies c)) _ e in
      let b = halves (leb (cell_count c l k) 32 && (leb (depth_in l k) 32 && leb (open_in l k) 16)) _ a.1 in
      let d = halves (leb (cell_count c l k) 32) _ b.0 in
      let f = halves (leb (depth_in l k) 32) _ d.1 in
      record { body = ltb-true _ _ a.0; cells = leb-true _ _ d.0; depth = leb-true _ _ f.0; open' = leb-true _ _ f.1 }

  limits-fit : (r n k : ℕ) → frame_fits c l r n k ≡ true → Limits c l k
  unfolding frame_fits
  limits-fit r n k e =
      let a = no-else (ltb (body_in l k) (bodies c)) _ e in
      let b = no-else (leb (cell_count c l k) 32) _ a.1 in
      let d = no-else (leb (depth_in l k) 32) _ b.1 in
      let f = no-else (leb (open_in l k) 16) _ d.1 in
      record { body = ltb-true _ _ a.0; cells = leb-true _ _ b.0; depth = leb-true _ _ d.0; open' = leb-true _ _ f.0 }

  few-held : (n : ℕ) → ((k : ℕ) → k < n → open_in l k ≤ 16) → held l n ≤ 16 * n
  unfolding held
  few-held zero h = omega arith
  few-held (suc n) h = omega (arith, few-held n (λ k p. h k (omega arith)), h n (omega arith))

  rough : (n : ℕ) → n ≤ 32 → ((k : ℕ) → k < n → Limits c l k) → (k : ℕ) → k < n → Rough c l k
  rough n few L k h =
      let g = L k h in
      record {
        body = g.body;
        cells = g.cells;
        depth = g.depth;
        open' = g.open';
        room = omega (arith, few-held k (λ j p. (L j (omega arith)).open'), g.open');
      }

is_some-five : (m : Macro) (h : ℕ) (a F Q : Bool) (fs : List Activation) (rs : List Made)
    → is_some (keep (If a then keep (If F then some fs else none) (λ x. keep (If Q then some rs else none) (λ y. assemble h y x)) else none) (only_sound m))
    ≡ (a && (F && (Q && is_some (keep (assemble h rs fs) (only_sound m)))))
is_some-five m h true true true fs rs = refl
is_some-five m h true true false fs rs = refl
is_some-five m h true false Q fs rs = refl
is_some-five m h false F Q fs rs = refl

is_some-two : (m : Macro) (e : Bool) (s : Machine) → is_some (keep (If e then some s else none) (only_sound m)) ≡ (e && sound m s)
is_some-two m true s = by-test (sound m s) (λ p. rw p) (λ p. rw p)
is_some-two m false s = refl

module _ (c l : List ℕ) (seen : Viewed c (view c)) (clean : Clean (broken c) (count c)) (B : Bytes l) (long : length l ≡ state_length) (r h k : ℕ) where
  abbrev m : Macro
  m = view c

  abbrev rs : List Made
  rs = span (record_on c l) 0 r

  abbrev n : ℕ
  n = suc k

  abbrev read_and_sound : Bool
  read_and_sound =
      (leb n 32 && leb r 256) && (each (frame_reads c l) 0 n && (each (record_reads c l) 0 r
      && (eqb (length (all_holds (backs (frame_on c l) n))) h && sound m (running (record { records = rs }) (frame_on c l k) (backs (frame_on c l) k)))))

  module _ (few : n ≤ 32) (L : (j : ℕ) → j < n → Limits c l j) where
    same-at : (j : ℕ) → j < n
        → (frame_reads c l j && (calls_next c l n j && sound_activation m rs (taken_on c l n j) (frame_on c l j))) ≡ (frame_fits c l r n j && (stands c l r n j && all sound_group (holds_on c l j)))
    same-at j p = frame_same c l seen clean B long r n j (rough c l n few L j p) (λ q. (L (j + 1) q).body)

    rooms : (j : ℕ) → j < n → held l j + open_in l j ≤ 512
    rooms j p = (rough c l n few L j p).room

  waits : sound_waiting m rs (frame_on c l k).body (backs (frame_on c l) k) ≡ (each (waits_at c l rs) 0 k && eqb (body_in l 0) 0)
  unfolding frame_on
  waits = waiting-is c l rs k

  abbrev good_at : ℕ → Bool
  good_at j = calls_next c l n j && sound_activation m rs (taken_on c l n j) (frame_on c l j)

  -- the top, and those below it
  each-good : sound_activation m rs [] (frame_on c l k) ≡ true → each (waits_at c l rs) 0 k ≡ true → (j : ℕ) → j < n → good_at j ≡ true
  each-good t w j p =
      by-test (ltb (j + 1) n)
      (λ e. rw e (each-get (waits_at c l rs) k w j (omega tests)))
      (λ e. let q : j ≡ k = omega tests in rw (e, q) t)

  good-top : ((j : ℕ) → j < n → good_at j ≡ true) → sound_activation m rs [] (frame_on c l k) ≡ true
  good-top g = let e : ltb (k + 1) n ≡ false = le-ltb (k + 1) n (omega arith) in rw e at (g k (omega arith))

  good-below : ((j : ℕ) → j < n → good_at j ≡ true) → each (waits_at c l rs) 0 k ≡ true
  good-below g = each_all (waits_at c l rs) k (λ j p. let e : ltb (j + 1) n ≡ true = lt-ltb (j + 1) n (omega arith) in rw e at (g j (omega arith)))

  -- from the state that was read
  to-tests : read_and_sound ≡ true → cond (running_fits c l n r h) (each (stands c l r n) 0 n) false ≡ true
  unfolding running_fits groups_fit sound
  to-tests e =
      let a = halves (leb n 32 && leb r 256) _ e in
      let a1 = halves (leb n 32) (leb r 256) a.0 in
      let b = halves (each (frame_reads c l) 0 n) _ a.1 in
      let q = halves (each (record_reads c l) 0 r) _ b.1 in
      let s = halves (eqb (length (all_holds (backs (frame_on c l) n))) h) (sound m (running (record { records = rs }) (frame_on c l k) (backs (frame_on c l) k))) q.1 in
      let s1 = halves (leb (length (frame_on c l k ∷ backs (frame_on c l) k)) 32) _ s.1 in
      let s2 = halves (leb (length rs) 256) _ s1.1 in
      let s3 = halves (all (sound_record m rs) rs) _ s2.1 in
      let s4 = halves (sound_activation m rs [] (frame_on c l k)) _ s3.1 in
      let w = halves (each (waits_at c l rs) 0 k) (eqb (body_in l 0) 0) (sym waits ∙ s4.1) in
      let few : n ≤ 32 = leb-true n 32 a1.0 in
      let fr = each-get (frame_reads c l) n b.0 in
      let L : (j : ℕ) → j < n → Limits c l j = λ j p. limits-read c l j (fr j p) in
      let H : held l n ≡ h = sym (holds-all c l long n (rooms few L)) ∙ eqb-true _ h s.0 in
      let g : (j : ℕ) → j < n → (frame_fits c l r n j && (stands c l r n j && all sound_group (holds_on c l j))) ≡ true = λ j p.
      sym (same-at few L j p) ∙ both (fr j p) (each-good s4.0 w.0 j p) in
      let G : each (group_at l) 0 h ≡ true = rw H at (sym (groups-all c l long n (rooms few L))
      ∙ each_all (λ j. all sound_group (holds_on c l j)) n (λ j p. (halves (stands c l r n j) _ (halves (frame_fits c l r n j) _ (g j p)).1).1)) in
      let h512 : h ≤ 512 = omega (arith, few-held c l n (λ j p. (L j p).open')) in
      let rec' : each (record_fits c l r) 0 r ≡ true = each_all (record_fits c l r) r (λ j p. sym (record-fits c l seen.well B r j)
      ∙ both (each-get (record_reads c l) r q.0 j p) (each-get (λ j. sound_record m rs (record_on c l j)) r (sym (all-span (sound_record m rs) (record_on c l) r 0) ∙ s3.0) j p)) in
      choose
      (choose (le-leb 1 n (omega arith)) (choose a1.0 (choose a1.1 (choose w.1 (choose (eq-eqb (held l n) h H) (choose (choose (le-leb h 512 h512) G)
      (choose rec' (each_all (frame_fits c l r n) n (λ j p. (halves (frame_fits c l r n j) _ (g j p)).0)))))))))
      (each_all (stands c l r n) n (λ j p. (halves (stands c l r n j) _ (halves (frame_fits c l r n j) _ (g j p)).1).0))

  -- from the tests
  to-sound : cond (running_fits c l n r h) (each (stands c l r n) 0 n) false ≡ true → read_and_sound ≡ true
  unfolding running_fits groups_fit sound
  to-sound e =
      let a = no-else (running_fits c l n r h) _ e in
      let t1 = no-else (leb 1 n) _ a.0 in
      let t2 = no-else (leb n 32) _ t1.1 in
      let t3 = no-else (leb r 256) _ t2.1 in
      let t4 = no-else (eqb (body_in l 0) 0) _ t3.1 in
      let t5 = no-else (eqb (held l n) h) _ t4.1 in
      let t6 = no-else (groups_fit l h) _ t5.1 in
      let t7 = no-else (each (record_fits c l r) 0 r) (each (frame_fits c l r n) 0 n) t6.1 in
      let t8 = no-else (leb h 512) (each (group_at l) 0 h) t6.0 in
      let few : n ≤ 32 = leb-true n 32 t2.0 in
      let ff = each-get (frame_fits c l r n) n t7.1 in
      let L : (j : ℕ) → j < n → Limits c l j = λ j p. limits-fit c l r n j (ff j p) in
      let H : held l n ≡ h = eqb-true (held l n) h t5.0 in
      let G : each (λ j. all sound_group (holds_on c l j)) 0 n ≡ true = groups-all c l long n (rooms few L) ∙ rw H t8.1 in
      let g : (j : ℕ) → j < n → (frame_reads c l j && good_at j) ≡ true = λ j p.
      same-at few L j p ∙ both (ff j p) (both (each-get (stands c l r n) n a.1 j p) (each-get (λ j. all sound_group (holds_on c l j)) n G j p)) in
      let good : (j : ℕ) → j < n → good_at j ≡ true = λ j p. (halves (frame_reads c l j) (good_at j) (g j p)).1 in
      let rec' : (j : ℕ) → j < r → (record_reads c l j && sound_record m rs (record_on c l j)) ≡ true = λ j p.
      record-fits c l seen.well B r j ∙ each-get (record_fits c l r) r t7.0 j p in
      let rn : length rs ≡ r = span-length (record_on c l) r 0 in
      let kn : length (backs (frame_on c l) k) ≡ k = backs-length (frame_on c l) k in
      let n32 : leb (length (frame_on c l k ∷ backs (frame_on c l) k)) 32 ≡ true = rw kn t2.0 in
      let r256 : leb (length rs) 256 ≡ true = rw rn t3.0 in
      both (both t2.0 t3.0)
      (both (each_all (frame_reads c l) n (λ j p. (halves (frame_reads c l j) (good_at j) (g j p)).0))
      (both (each_all (record_reads c l) r (λ j p. (halves (record_reads c l j) _ (rec' j p)).0))
      (both (eq-eqb (length (all_holds (backs (frame_on c l) n))) h (holds-all c l long n (rooms few L) ∙ H))
      (both n32 (both r256
      (both (all-span (sound_record m rs) (record_on c l) r 0 ∙ each_all (λ j. sound_record m rs (record_on c l j)) r (λ j p. (halves (record_reads c l j) _ (rec' j p)).1))
      (both (good-top good) (waits ∙ both (good-below good) t4.0))))))))

  pub running-same : read_and_sound ≡ cond (running_fits c l n r h) (each (stands c l r n) 0 n) false
  running-same = same_test read_and_sound _ to-tests to-sound

-- ── read from the bytes ──
module _ (c l : List ℕ) (seen : Viewed c (view c)) (clean : Clean (broken c) (count c)) (B : Bytes l) (long : length l ≡ state_length) where
  frames-read : (n : ℕ) → read_activations (view c) n (drop 32 l) (part holds_at 512 l) [] ≡ (If each (frame_reads c l) 0 n then some (backs (frame_on c l) n) else none)
  unfolding held
  frames-read n = activations-read c l seen.well n 0 [] ∙ rw (reverse-span (frame_on c l) n)

  entries-read : (r : ℕ) → read_records (view c) r (drop records_at l) ≡ (If each (record_reads c l) 0 r then some (span (record_on c l) 0 r) else none)
  entries-read r = records-read c l seen.well r 0

  assembled : (n r h : ℕ)
      → ((leb n 32 && leb r 256) && (each (frame_reads c l) 0 n && (each (record_reads c l) 0 r && is_some (keep (assemble h (span (record_on c l) 0 r) (backs (frame_on c l) n)) (only_sound (view c))))))
      ≡ cond (running_fits c l n r h) (each (stands c l r n) 0 n) false
  unfolding backs running_fits
  assembled zero r h = nothing (leb 0 32 && leb r 256) (each (frame_reads c l) 0 0) (each (record_reads c l) 0 r)
    where
      nothing : (a b d : Bool) → (a && (b && (d && false))) ≡ false
      nothing true true d = and-false d
      nothing true false d = refl
      nothing false b d = refl
  assembled (suc k) r h =
      rw (is_some-two (view c) (eqb (length (all_holds (backs (frame_on c l) (suc k)))) h) (running (record { records = span (record_on c l) 0 r }) (frame_on c l k) (backs (frame_on c l) k)))
      (running-same c l seen clean B long r h k)

  pub running-is : is_some (keep (read_running (view c) l) (only_sound (view c)))
      ≡ cond (running_fits c l (byte_at l 2) (half_at l 4) (half_at l 6)) (each (stands c l (half_at l 4) (byte_at l 2)) 0 (byte_at l 2)) false
  unfolding read_running
  running-is =
      rw (frames-read (byte_at l 2), entries-read (half_at l 4))
      (is_some-five (view c) (half_at l 6) (leb (byte_at l 2) 32 && leb (half_at l 4) 256) (each (frame_reads c l) 0 (byte_at l 2))
      (each (record_reads c l) 0 (half_at l 4)) (backs (frame_on c l) (byte_at l 2)) (span (record_on c l) 0 (half_at l 4))
      ∙ assembled (byte_at l 2) (half_at l 4) (half_at l 6))
