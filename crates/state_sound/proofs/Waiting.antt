-- The activations below the top stand at calls, and the holds of all activations lie one after the other.
use Rattle.std.specs.Prelude.{◌≡◌, Bool, cond, ◌&&◌, List, reverse, eqb, leb, drop, take}
use Rattle.std.proofs.Math.Path.{refl}
use Rattle.std.proofs.Common.{sym, ap, ◌∙◌, add-zero, add-suc, suc-add, arith, length-drop, drop-cons, get_or-take, get_or-drop, lt-ltb}
use Rattle.std.proofs.Math.Bool.{true, false}
use Prim.Native.Nat.{ℕ, zero, suc, ◌+◌, ◌≤◌, ◌<◌}
use Rattle.std.proofs.Math.Nat.{zero-add}
use Rattle.std.proofs.Math.ListN.{length, get_elem?, length-append}
use Rattle.std.proofs.lemmas.List.{length-reverse}
use Rattle.std.proofs.Math.Seq.{length-take-le}
use Rattle.logic.specs.Lists.{all}
use Rattle.words.specs.Numbers.{byte_at}
use Rattle.values.specs.Types.{Ty}
use Rattle.bytecode.specs.Instructions.{body_at}
use Rattle.bytecode.specs.Rules.{on_stack}
use Rattle.bytecode.specs.Machine.{Made, all_holds}
use Rattle.bytecode.specs.Sound.{sound_group, sound_activation, calls_body, parameters_of, sound_waiting}
use Rattle.bytecode.specs.State.{part, holds_at, state_length}
use Rattle.load_places.specs.Search.{tops}
use Rattle.load_places.specs.Records.{bodies, body_place}
use Rattle.load_places.specs.Index.{Well}
use Rattle.load_check.specs.Views.{backs, span-take, reverse-span, view, bytes, stack-bytes, known-body, body-at}
use Rattle.logic.specs.Tests.{and_assoc}
use Rattle.state_sound.specs.Each.{each, each_snoc, each_same}
use Rattle.state_sound.specs.Fits.{body_in, open_in, address_in, held}
use Rattle.state_sound.proofs.Decoded.{cell_count, holds_on, frame_on}

-- ── a call, by the code record ──
pub calls-only : (a b c : Bool) → (a && (b && c)) ≡ cond a (cond b c false) false
calls-only true true c = refl
calls-only true false c = refl
calls-only false b c = refl

-- ── one run of tests after another ──
pub each_append : (f : ℕ → Bool) (a b j : ℕ) → each f j (a + b) ≡ (each f j a && each f (j + a) b)
unfolding each
each_append f zero b j = rw (zero-add b, add-zero j)
each_append f (suc a) b j =
    rw (suc-add a b) (ap (λ (x : Bool). f j && x) (each_append f a b (suc j)) ∙ sym (and_assoc (f j) (each f (suc j) a) (each f (suc j + a) b)) ∙ rw (suc-add j a, add-suc j a))

pub all-part : (t : ℕ → Bool) (a b : ℕ) (l : List ℕ) → b + a ≤ length l → all t (take a (drop b l)) ≡ each (λ j. t (byte_at l j)) b a
unfolding all each
all-part t zero b l h = refl
all-part t (suc a) b l h = rw (drop-cons l b 0 (omega arith)) (ap (λ (x : Bool). t (byte_at l b) && x) (all-part t a (suc b) l (omega arith)))

abbrev pub group_at : List ℕ → ℕ → Bool
group_at l j = leb (byte_at l (holds_at + j)) 63

module _ (c l : List ℕ) (long : length l ≡ state_length) where
  row-length : length (part holds_at 512 l) ≡ 512
  row-length = length-take-le 512 (drop holds_at l) (rw (length-drop holds_at l) (omega arith))

  groups-here : (k : ℕ) → held l k + open_in l k ≤ 512 → all sound_group (holds_on c l k) ≡ each (group_at l) (held l k) (open_in l k)
  groups-here k h =
      all-part sound_group (open_in l k) (held l k) (part holds_at 512 l) (rw row-length h)
      ∙ each_same _ _ (open_in l k) (held l k) (λ i p. ap (λ (z : ℕ). leb z 63) (get_or-take 512 (drop holds_at l) (held l k + i) 0 (omega arith) ∙ get_or-drop holds_at l (held l k + i) 0))

  -- of the first n activations
  pub groups-all : (n : ℕ) → ((k : ℕ) → k < n → held l k + open_in l k ≤ 512) → each (λ k. all sound_group (holds_on c l k)) 0 n ≡ each (group_at l) 0 (held l n)
  unfolding held each
  groups-all zero h = refl
  groups-all (suc n) h =
      each_snoc (λ k. all sound_group (holds_on c l k)) n 0
      ∙ rw (zero-add n, groups-all n (λ k p. h k (omega arith)), groups-here n (h n (omega arith)), each_append (group_at l) (held l n) (open_in l n) 0, zero-add (held l n))

  pub holds-all : (n : ℕ) → ((k : ℕ) → k < n → held l k + open_in l k ≤ 512) → length (all_holds (backs (frame_on c l) n)) ≡ held l n
  unfolding all_holds backs held frame_on
  holds-all zero h = refl
  holds-all (suc n) h =
      let a : length (holds_on c l n) ≡ open_in l n =
      length-take-le (open_in l n) (drop (held l n) (part holds_at 512 l)) (rw (length-drop (held l n) (part holds_at 512 l), row-length) (omega (arith, h n (omega arith)))) in
      length-append (reverse (holds_on c l n)) (all_holds (backs (frame_on c l) n))
      ∙ rw (length-reverse (holds_on c l n), a, holds-all n (λ k p. h k (omega arith))) (omega arith)

-- ── the activations below the top ──
-- the types of the arguments that activation k's call took
abbrev pub arguments_on : List ℕ → List ℕ → ℕ → List Ty
arguments_on c l k = on_stack (parameters_of (body_at (view c) (body_in l (suc k))))

module _ (c l : List ℕ) (rs : List Made) where
  abbrev pub waits_at : ℕ → Bool
  waits_at k = calls_body (get_elem? (view c).code (address_in l k)) (body_in l (suc k)) && sound_activation (view c) rs (arguments_on c l k) (frame_on c l k)

  pub waiting-is : (k : ℕ) → sound_waiting (view c) rs (body_in l k) (backs (frame_on c l) k) ≡ (each waits_at 0 k && eqb (body_in l 0) 0)
  unfolding sound_waiting backs each frame_on
  waiting-is zero = refl
  waiting-is (suc k) =
      rw (waiting-is k, each_snoc waits_at k 0, zero-add k) (turn (calls_body (get_elem? (view c).code (address_in l k)) (body_in l (suc k))) _ (each waits_at 0 k) (eqb (body_in l 0) 0))
    where
      turn : (a b e z : Bool) → (a && (b && (e && z))) ≡ ((e && (a && b)) && z)
      turn true true true z = refl
      turn true true false z = refl
      turn true false true z = refl
      turn true false false z = refl
      turn false b true z = refl
      turn false b false z = refl

  pub arguments-bytes : Well c → (k : ℕ) → body_in l (suc k) < bodies c → bytes (arguments_on c l k) ≡ tops c (body_place c (body_in l (suc k)) + 7) (byte_at c (body_place c (body_in l (suc k)) + 4))
  arguments-bytes W k h =
      let b = known-body c W (body_in l (suc k)) h in
      let p = byte_at c (body_place c (body_in l (suc k)) + 4) in
      rw (body-at c (body_in l (suc k)), lt-ltb (body_in l (suc k)) (bodies c) h, span-take _ p (cell_count c l (suc k)) 0 b.fewer, reverse-span _ p)
      (stack-bytes c (body_place c (body_in l (suc k)) + 7) p (λ i q. b.cells i (omega (arith, b.fewer))))
