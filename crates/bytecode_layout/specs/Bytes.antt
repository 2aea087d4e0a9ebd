-- The numbers of an encoded sound state are bytes.
use Rattle.std.specs.Prelude.{◌≡◌, Bool, true, false, ◌||◌, ℕ, zero, suc, ◌*◌, ◌≤◌, ◌<◌, eqb, leb}
use Rattle.std.proofs.Math.Path.{refl}
use Rattle.std.proofs.Common.{ap, length-append}
use mathlib.Core.List.{List, [], ◌∷◌, ◌++◌, map, reverse}
use Rattle.std.proofs.Math.Option.{Option}
use native.Mathlib.Omega.{arith}
use Rattle.std.proofs.Math.ListN.{length}
use borrow.Author.Tests.{leb-true, eqb-true}
use Rattle.bytecode.specs.Words.{value_word}
use Rattle.logic.specs.Lists.{all, Each}
use Rattle.words.specs.Numbers.{half, word}
use Rattle.words.specs.Laws.{Bytes}
use Rattle.values.specs.Ends.{is_condition}
use Rattle.values.specs.Conditions.{condition-byte}
use Rattle.bytecode.specs.Macro.{Macro}
use Rattle.bytecode.specs.Machine.{Activation, Made, end_by, Machine, running, unwinding, ended, all_holds}
use Rattle.bytecode.specs.Sound.{sound_group, sound}
use Rattle.bytecode.specs.State.{pad, flat, zeros, words_of, types_of, type_byte, read_value, word_of_cell, byte_of_cell, read_cell, activation_bytes, record_bytes, header_bytes, state_bytes, encode}
use Rattle.logic.specs.Tests.{halves}
use Rattle.logic.specs.ListLaws.{each_all, each_both, each_map, each-reverse, index_below}
use Rattle.bytecode_layout.specs.Sized.{Sized, Laid, GoodValue, GoodRecord, GoodActivation, good}

abbrev Small : List ℕ → Type 0
Small l = Each (λ (b : ℕ). b < 256) l

small_at : (l : List ℕ) → Small l → Bytes l
small_at [] h k = omega arith
small_at (b ∷ l) h zero = h.0
small_at (b ∷ l) h (suc k) = small_at l h.1 k

small-both : (a b : List ℕ) → Small a → Small b → Small (a ++ b)
small-both a b h i = each_both (λ (b : ℕ). b < 256) a b h i

small-half : (n : ℕ) → n < 65536 → Small (half n)
small-half n h = (omega arith, (omega arith, tt))

small_word : (n : ℕ) → n < 4294967296 → Small (word n)
small_word n h = (omega arith, (omega arith, (omega arith, (omega arith, tt))))

each-pad : {A : Type 0} (P : A → Type 0) (n : ℕ) (z : A) (xs : List A) → P z → Each P xs → Each P (pad n z xs)
unfolding pad
each-pad P zero z xs p h = tt
each-pad P (suc n) z [] p h = (p, each-pad P n z [] p tt)
each-pad P (suc n) z (x ∷ xs) p h = (h.0, each-pad P n z xs p h.1)

small-flat : {A : Type 0} (P : A → Type 0) (enc : A → List ℕ) → ((x : A) → P x → Small (enc x)) → (xs : List A) → Each P xs → Small (flat enc xs)
unfolding flat
small-flat P enc f [] h = tt
small-flat P enc f (x ∷ xs) h = small-both (enc x) (flat enc xs) (f x h.0) (small-flat P enc f xs h.1)

small-zeros : (n : ℕ) → Small (zeros n)
unfolding zeros
small-zeros zero = tt
small-zeros (suc n) = (omega arith, small-zeros n)

module _ {A : Type 0} (word_of byte_of : A → ℕ) (read : ℕ → ℕ → Option A) (n : ℕ) (xs : List A) (h : Each (Laid word_of byte_of read) xs) where
  small-words : Small (words_of n (map word_of xs))
  small-words =
      small-flat (λ (w : ℕ). w < 4294967296) word small_word (pad n 0 (map word_of xs))
      (each-pad (λ (w : ℕ). w < 4294967296) n 0 (map word_of xs) (omega arith)
      (each_map (Laid word_of byte_of read) (λ (w : ℕ). w < 4294967296) word_of (λ v g. g.narrow) xs h))

  small-types : Small (types_of n (map byte_of xs))
  small-types =
      each-pad (λ (b : ℕ). b < 256) n 0 (map byte_of xs) (omega arith)
      (each_map (Laid word_of byte_of read) (λ (b : ℕ). b < 256) byte_of (λ v g. g.type) xs h)

-- ── holds ──
pub few-holds : (m : Macro) (fs : List Activation) → Each (GoodActivation m) fs → length (all_holds fs) ≤ 16 * length fs
unfolding all_holds
few-holds m [] h = omega arith
few-holds m (f ∷ fs) h = rw (length-append f.holds (all_holds fs)) (omega (arith, h.0.few-holds, few-holds m fs h.1))

small-holds : (m : Macro) (fs : List Activation) → Each (GoodActivation m) fs → Each (λ (g : ℕ). g ≤ 63) (all_holds fs)
unfolding all_holds
small-holds m [] h = tt
small-holds m (f ∷ fs) h = each_both (λ (g : ℕ). g ≤ 63) f.holds (all_holds fs) h.0.holds (small-holds m fs h.1)

small-groups : (gs : List ℕ) → Each (λ (g : ℕ). g ≤ 63) gs → Small (pad 512 0 (reverse gs))
small-groups gs h =
    each-pad (λ (b : ℕ). b < 256) 512 0 (reverse gs) (omega arith)
    (each-reverse (λ (b : ℕ). b < 256) gs (rw (map-id gs) at (each_map (λ (g : ℕ). g ≤ 63) (λ (b : ℕ). b < 256) (λ (g : ℕ). g) (λ g i. omega arith) gs h)))
  where
    map-id : (gs : List ℕ) → map (λ (g : ℕ). g) gs ≡ gs
    map-id [] = refl
    map-id (g ∷ gs) = ap (λ (l : List ℕ). g ∷ l) (map-id gs)

-- ── the parts ──
small-header : (p c a r h : ℕ) → p < 256 → c < 256 → a < 256 → r < 65536 → h < 65536 → Small (header_bytes p c a r h)
unfolding header_bytes
small-header p c a r h hp hc ha hr hh =
    (hp, (hc, (ha, (omega arith, small-both (half r) (half h ++ zeros 24) (small-half r hr) (small-both (half h) (zeros 24) (small-half h hh) (small-zeros 24))))))

small-end : (c : ℕ) (t : Bool) → eqb c 0 ≡ t → (t || is_condition c) ≡ true → c < 256
small-end c true e h = omega (arith, eqb-true c 0 e)
small-end c false e h = condition-byte c h

module _ (m : Macro) (sized : Sized m) where
  small-activation : (f : Activation) → GoodActivation m f → Small (activation_bytes f)
  unfolding activation_bytes
  small-activation f g =
      let n = length m.classes in
      let cw = map word_of_cell f.cells in let ct = map byte_of_cell f.cells in
      let vs = reverse f.operands in
      let vw = map value_word vs in let vt = map type_byte vs in
      let ops = each-reverse (GoodValue n) f.operands g.operands in (
        omega (arith, index_below m.bodies f.body g.which g.body, sized.few-bodies),
        (
          omega (arith, g.few-operands),
          (
            omega (arith, g.few-holds),
            (
              omega arith,
              small-both (half f.address) ((0 ∷ 0 ∷ []) ++ (words_of 32 cw ++ (words_of 32 vw ++ (types_of 32 ct ++ types_of 32 vt)))) (small-half f.address g.address) (
                omega arith,
                (
                  omega arith,
                  small-both (words_of 32 cw) (words_of 32 vw ++ (types_of 32 ct ++ types_of 32 vt)) (small-words word_of_cell byte_of_cell (read_cell n) 32 f.cells g.cells)
                      (small-both (words_of 32 vw) (types_of 32 ct ++ types_of 32 vt) (small-words value_word type_byte (read_value n) 32 vs ops)
                      (small-both (types_of 32 ct) (types_of 32 vt) (small-types word_of_cell byte_of_cell (read_cell n) 32 f.cells g.cells)
                      (small-types value_word type_byte (read_value n) 32 vs ops))),
                ),
              ),
            ),
          ),
        ),
      )

  small-record : (r : Made) → GoodRecord m r → Small (record_bytes r)
  unfolding record_bytes
  small-record r g =
      let n = length m.classes in (
        omega (arith, index_below m.classes r.class g.types g.class, sized.few-classes),
        (
          omega arith,
          (
            omega arith,
            (
              omega arith,
              small-both (words_of 8 (map value_word r.fields)) (types_of 8 (map type_byte r.fields)) (small-words value_word type_byte (read_value n) 8 r.fields g.values)
                  (small-types value_word type_byte (read_value n) 8 r.fields g.values),
            ),
          ),
        ),
      )

  small-chunks : (n w : ℕ) (ls : List (List ℕ)) → Each Small ls → Small (flat (λ (x : List ℕ). x) (pad n (zeros w) ls))
  small-chunks n w ls h = small-flat Small (λ (x : List ℕ). x) (λ x i. i) (pad n (zeros w) ls) (each-pad Small n (zeros w) ls (small-zeros w) h)

  small-state : (h : List ℕ) (xs : List (List ℕ)) (gs : List ℕ) (rs : List (List ℕ)) → Small h → Each Small xs → Each (λ (g : ℕ). g ≤ 63) gs → Each Small rs → Small (state_bytes h xs (reverse gs) rs)
  unfolding state_bytes
  small-state h xs gs rs sh sa sg sr =
      small-both h _ sh
      (small-both (flat (λ (x : List ℕ). x) (pad 32 (zeros 328) xs)) _ (small-chunks 32 328 xs sa)
      (small-both (pad 512 0 (reverse gs)) _ (small-groups gs sg) (small-both (flat (λ (x : List ℕ). x) (pad 256 (zeros 44) rs)) (zeros 2272) (small-chunks 256 44 rs sr) (small-zeros 2272))))

  small-encode : (s : Machine) → sound m s ≡ true → Small (encode s)
  unfolding encode sound
  small-encode (running s f fs) h =
      let rs = s.records in
      let g = good m sized s f fs h in
      let hs : length (all_holds (f ∷ fs)) ≤ 16 * length (f ∷ fs) = few-holds m (f ∷ fs) g.activations in
      small-state _ _ (all_holds (f ∷ fs)) _
      (small-header 0 0 (length (f ∷ fs)) (length rs) (length (all_holds (f ∷ fs))) (omega arith) (omega arith) (omega (arith, g.few)) (omega (arith, g.small)) (omega (arith, g.few)))
      (each_map (GoodActivation m) Small activation_bytes small-activation (reverse (f ∷ fs)) (each-reverse (GoodActivation m) (f ∷ fs) g.activations))
      (small-holds m (f ∷ fs) g.activations)
      (each_map (GoodRecord m) Small record_bytes small-record rs g.records)
  small-encode (unwinding gs (end_by c)) h =
      let a = halves (is_condition c) _ h in
      let b = halves (leb (length gs) 512) (all sound_group gs) a.1 in
      let n : length gs ≤ 512 = leb-true (length gs) 512 b.0 in
      small-state _ [] gs [] (small-header 1 c 0 0 (length gs) (omega arith) (condition-byte c a.0) (omega arith) (omega arith) (omega arith)) tt
      (each_all sound_group (λ (g : ℕ). g ≤ 63) (λ g h. leb-true g 63 h) gs b.1) tt
  small-encode (ended c) h = small-state _ [] [] [] (small-header 2 c 0 0 0 (omega arith) (small-end c (eqb c 0) refl h) (omega arith) (omega arith) (omega arith)) tt tt tt

pub bytes : (m : Macro) → Sized m → (s : Machine) → sound m s ≡ true → Bytes (encode s)
bytes m sized s h = small_at (encode s) (small-encode m sized s h)
