-- The ops that jump, give events, read faders, hold and release, and end, on the plain machine.
use mathlib.Core.Path.{◌≡◌, refl, ap, ◌∙◌}
use mathlib.Core.Bool.{true, false, ◌&&◌}
use mathlib.Core.List.{List, [], ◌∷◌, ◌++◌}
use Prim.Native.Nat.{ℕ, suc, ◌+◌, ◌*◌, ◌-◌, ◌≤◌, ◌<◌}
use native.Mathlib.Omega.{arith}
use lib.Dec.{eqb, ltb}
use lib.IntN.{ℤ, pos}
use lib.ListN.{length, get_or}
use Rattle.values.specs.Ends.{assert_false, out_of_range}
use Rattle.bytecode.specs.Words.{value_word}
use Rattle.logic.specs.Choice.{If◌then◌else◌}
use Rattle.words.specs.Numbers.{byte_at, half_at, word_at, word_of}
use Rattle.values.specs.Trace.{set, event, reading}
use Rattle.values.specs.Values.{Value, int, log, bit, ref, between, size, Cell}
use Rattle.bytecode.specs.Macro.{Macro}
use Rattle.bytecode.specs.Machine.{Activation, Shared, no_step, bad_type, bad_frame, group_held, is_empty, all_holds, condition, goes_on, do_go_unless, do_set, do_fader, do_assert, do_take_hold, letting, do_end}
use Rattle.bytecode.specs.Sound.{sound_value}
use Rattle.bytecode.specs.Runs.{bank_of}
use Rattle.bytecode_safety.specs.Lists.{all_first}
use Rattle.bytecode_layout.specs.Steps.{activation}
use Rattle.machine_frames.specs.Bytes.{went_to, popped, operand_set, hold_taken, hold_let, finished}
use Rattle.machine_frames.specs.On.{On, on-pop, on-operand, on-take, on-let, on-finish, read-operand, read-holds, read-group}
use Rattle.machine_ops.specs.declared.Event.TheVariants.{Set, Hold, Release}
use Rattle.machine_ops.specs.declared.Out.{Out}
use Rattle.machine_ops.specs.declared.Out.TheVariants.{Goes, Reads, Gives, Ends}
use Rattle.machine_ops.specs.Acts.{here, Now, Told, Tells, Jumps, Holding}
use Rattle.logic.specs.Tests.{never, and-false}
use Rattle.machine_ops.proofs.RunningFacts.{stands, few-records, integer-small, in-range, below-range, above-range, demanded, goes-to, goes-on}
use Rattle.bytecode.specs.State.{holds_at, operand_words_at}

module _ {l : List ℕ} {f n i : ℕ} where
  -- ── jumps ──
  pub go-tells : (b : ℕ) (k : List ℕ) → k ≡ went_to l f b → Jumps b l f n i k Goes
  go-tells b k e m rs t fs N = record { are = (goes-to N.on k b b e refl, refl) }

  module _ (some-operand : 0 < n) (many : n ≤ 32) (w : ℕ) (ew : w ≡ word_at l (f + (operand_words_at + 4 * (n - 1)))) where
    -- with w the word of v on top of vs
    word_on : {m : Macro} {rs : Shared} {c0 a0 : ℕ} {cs : List Cell} {v : Value} {vs : List Value} {gs : List ℕ} {fs : List Activation}
        → Now m l f n i rs (activation c0 a0 cs (v ∷ vs) gs) fs → w ≡ value_word v
    word_on {v = v} {vs = vs} N = ew ∙ (read-operand N.on [] v vs (n - 1) refl (omega (arith, N.depth)) (omega arith)).0

    off : {m : Macro} {rs : Shared} {c0 a0 : ℕ} {cs : List Cell} {v : Value} {vs : List Value} {gs : List ℕ} {fs : List Activation}
        → Now m l f n i rs (activation c0 a0 cs (v ∷ vs) gs) fs → On (popped l f (n - 1)) f rs [] (activation c0 a0 cs vs gs) fs
    off {v = v} N = on-pop v N.on (n - 1) (omega (arith, N.depth)) (omega arith)

    module _ (b : ℕ) (k1 k2 : List ℕ) (e1 : k1 ≡ popped l f (n - 1)) where
      pub unless-false : w ≡ 0 → k2 ≡ went_to k1 f b → Tells (λ m h. do_go_unless b h) l f n i k2 Goes
      unfolding do_go_unless
      unless-false z e2 m rs t fs N = go t.body t.address t.cells t.operands t.holds N
        where
          go : (c0 a0 : ℕ) (cs : List Cell) (vs : List Value) (gs : List ℕ) → Now m l f n i rs (activation c0 a0 cs vs gs) fs → Told (do_go_unless b (here rs (activation c0 a0 cs vs gs) fs)) k2 Goes
          go c0 a0 cs [] gs N = record { are = tt }
          go c0 a0 cs (int q ∷ vs) gs N = record { are = tt }
          go c0 a0 cs (bit q ∷ vs) gs N = record { are = tt }
          go c0 a0 cs (ref c q ∷ vs) gs N = record { are = tt }
          go c0 a0 cs (log true ∷ vs) gs N = absurd (omega (arith, word_on N))
          go c0 a0 cs (log false ∷ vs) gs N = record { are = (goes-to (off N) k2 b b (e2 ∙ rw e1) refl, refl) }

      pub unless-true : (w ≡ 0 → ⊥) → k2 ≡ went_to k1 f (i + 1) → Tells (λ m h. do_go_unless b h) l f n i k2 Goes
      unfolding do_go_unless
      unless-true z e2 m rs t fs N = go t.body t.address t.cells t.operands t.holds N
        where
          go : (c0 a0 : ℕ) (cs : List Cell) (vs : List Value) (gs : List ℕ) → Now m l f n i rs (activation c0 a0 cs vs gs) fs → Told (do_go_unless b (here rs (activation c0 a0 cs vs gs) fs)) k2 Goes
          go c0 a0 cs [] gs N = record { are = tt }
          go c0 a0 cs (int q ∷ vs) gs N = record { are = tt }
          go c0 a0 cs (bit q ∷ vs) gs N = record { are = tt }
          go c0 a0 cs (ref c q ∷ vs) gs N = record { are = tt }
          go c0 a0 cs (log false ∷ vs) gs N = absurd (z (word_on N))
          go c0 a0 cs (log true ∷ vs) gs N = record { are = (goes-to (off N) k2 (i + 1) (suc a0) (e2 ∙ rw e1) (omega (arith, N.address)), refl) }

    -- ── assert ──
    pub assert-false : (k : List ℕ) (r : Out) → w ≡ 0 → Tells (λ m h. condition assert_false h) l f n i k r → Tells (λ m h. do_assert h) l f n i k r
    unfolding do_assert
    assert-false k r z C m rs t fs N = go t.body t.address t.cells t.operands t.holds N
      where
        go : (c0 a0 : ℕ) (cs : List Cell) (vs : List Value) (gs : List ℕ) → Now m l f n i rs (activation c0 a0 cs vs gs) fs → Told (do_assert (here rs (activation c0 a0 cs vs gs) fs)) k r
        go c0 a0 cs [] gs N = record { are = tt }
        go c0 a0 cs (int q ∷ vs) gs N = record { are = tt }
        go c0 a0 cs (bit q ∷ vs) gs N = record { are = tt }
        go c0 a0 cs (ref c q ∷ vs) gs N = record { are = tt }
        go c0 a0 cs (log true ∷ vs) gs N = absurd (omega (arith, word_on N))
        go c0 a0 cs (log false ∷ vs) gs N = C m rs _ fs N

    pub assert-true : (k1 k2 : List ℕ) → (w ≡ 0 → ⊥) → k1 ≡ popped l f (n - 1) → k2 ≡ went_to k1 f (i + 1) → Tells (λ m h. do_assert h) l f n i k2 Goes
    unfolding do_assert
    assert-true k1 k2 z e1 e2 m rs t fs N = go t.body t.address t.cells t.operands t.holds N
      where
        go : (c0 a0 : ℕ) (cs : List Cell) (vs : List Value) (gs : List ℕ) → Now m l f n i rs (activation c0 a0 cs vs gs) fs → Told (do_assert (here rs (activation c0 a0 cs vs gs) fs)) k2 Goes
        go c0 a0 cs [] gs N = record { are = tt }
        go c0 a0 cs (int q ∷ vs) gs N = record { are = tt }
        go c0 a0 cs (bit q ∷ vs) gs N = record { are = tt }
        go c0 a0 cs (ref c q ∷ vs) gs N = record { are = tt }
        go c0 a0 cs (log false ∷ vs) gs N = absurd (z (word_on N))
        go c0 a0 cs (log true ∷ vs) gs N = goes-on (activation c0 a0 cs (log true ∷ vs) gs) [] Goes (off N) k2 (i + 1) (e2 ∙ rw e1) (omega (arith, N.address)) refl

    -- ── fader ──
    fader-by : (readings k : List ℕ) (r : Out)
        → ((m : Macro) (rs : Shared) (c0 a0 : ℕ) (cs : List Cell) (z : ℤ) (vs : List Value) (gs : List ℕ) (fs : List Activation) → Now m l f n i rs (activation c0 a0 cs (int z ∷ vs) gs) fs
        → Told (If between 1 64 z then goes_on (reading (size z) (bank_of readings (size z)) ∷ []) (int (pos (bank_of readings (size z))) ∷ vs)
        (here rs (activation c0 a0 cs (int z ∷ vs) gs) fs) else condition out_of_range (here rs (activation c0 a0 cs (int z ∷ vs) gs) fs)) k r)
        → Tells (λ m h. do_fader (bank_of readings) h) l f n i k r
    unfolding do_fader
    fader-by readings k r G m rs t fs N = go t.body t.address t.cells t.operands t.holds N
      where
        go : (c0 a0 : ℕ) (cs : List Cell) (vs : List Value) (gs : List ℕ) → Now m l f n i rs (activation c0 a0 cs vs gs) fs
            → Told (do_fader (bank_of readings) (here rs (activation c0 a0 cs vs gs) fs)) k r
        go c0 a0 cs [] gs N = record { are = tt }
        go c0 a0 cs (log q ∷ vs) gs N = record { are = tt }
        go c0 a0 cs (bit q ∷ vs) gs N = record { are = tt }
        go c0 a0 cs (ref c q ∷ vs) gs N = record { are = tt }
        go c0 a0 cs (int z ∷ vs) gs N = G m rs c0 a0 cs z vs gs fs N

    pub fader-low : (readings k : List ℕ) (r : Out) → w < 1 → Tells (λ m h. condition out_of_range h) l f n i k r → Tells (λ m h. do_fader (bank_of readings) h) l f n i k r
    fader-low readings k r h C = fader-by readings k r (λ m rs c0 a0 cs z vs gs fs N. rw (below-range 1 64 (omega arith) z w (word_on N) h) (C m rs _ fs N))

    pub fader-high : (readings k : List ℕ) (r : Out) → 64 < w → Tells (λ m h. condition out_of_range h) l f n i k r → Tells (λ m h. do_fader (bank_of readings) h) l f n i k r
    fader-high readings k r h C = fader-by readings k r (λ m rs c0 a0 cs z vs gs fs N. rw (above-range 1 64 (omega arith) z w (word_on N) h) (C m rs _ fs N))

    pub fader-tells : (readings k1 k2 : List ℕ) (v : ℕ) → 1 ≤ w → w ≤ 64 → v ≡ get_or readings (w - 1) 0 → k1 ≡ operand_set l f (n - 1) v 1 → k2 ≡ went_to k1 f (i + 1)
        → Tells (λ m h. do_fader (bank_of readings) h) l f n i k2 Reads
    fader-tells readings k1 k2 v h h' ev e1 e2 = fader-by readings k2 Reads (λ m rs c0 a0 cs z vs gs fs N.
        let small = integer-small rs.records z (all_first (sound_value rs.records) (int z) vs (stands N).operands).0 in
        let q = in-range 1 64 (omega arith) z w small (word_on N) h h' in
        let b : v ≡ bank_of readings (size z) = rw q.1 ev in
        let p = on-operand (int (pos (bank_of readings (size z)))) v 1 b refl [] (int z) vs N.on (n - 1) (omega (arith, N.depth)) (omega arith) in
        rw q.0 (goes-on (activation c0 a0 cs (int z ∷ vs) gs) (reading (size z) (bank_of readings (size z)) ∷ []) Reads p k2 (i + 1) (e2 ∙ rw e1) (omega (arith, N.address)) refl))

  -- ── set ──
  module _ (two_operands : 2 ≤ n) (many : n ≤ 32) (x y : ℕ) (ey : y ≡ word_at l (f + (operand_words_at + 4 * (n - 1)))) (ex : x ≡ word_at l (f + (operand_words_at + 4 * (n - 2)))) where
    set-by : (k : List ℕ) (r : Out)
        → ((m : Macro) (rs : Shared) (c0 a0 : ℕ) (cs : List Cell) (u z : ℤ) (vs : List Value) (gs : List ℕ) (fs : List Activation) → Now m l f n i rs (activation c0 a0 cs (int u ∷ (int z ∷ vs)) gs) fs
        → x ≡ word_of z → y ≡ word_of u
        → Told (If between 1 512 z && between 0 255 u then goes_on (event (set (size z) (size u)) ∷ []) vs
        (here rs (activation c0 a0 cs (int u ∷ (int z ∷ vs)) gs) fs) else condition out_of_range (here rs (activation c0 a0 cs (int u ∷ (int z ∷ vs)) gs) fs)) k r)
        → Tells (λ m h. do_set h) l f n i k r
    unfolding do_set
    set-by k r G m rs t fs N = go t.body t.address t.cells t.operands t.holds N
      where
        go : (c0 a0 : ℕ) (cs : List Cell) (vs : List Value) (gs : List ℕ) → Now m l f n i rs (activation c0 a0 cs vs gs) fs → Told (do_set (here rs (activation c0 a0 cs vs gs) fs)) k r
        go c0 a0 cs [] gs N = record { are = tt }
        go c0 a0 cs (w ∷ []) gs N = record { are = tt }
        go c0 a0 cs (w ∷ (log q ∷ vs)) gs N = record { are = tt }
        go c0 a0 cs (w ∷ (bit q ∷ vs)) gs N = record { are = tt }
        go c0 a0 cs (w ∷ (ref c q ∷ vs)) gs N = record { are = tt }
        go c0 a0 cs (log q ∷ (int z ∷ vs)) gs N = record { are = tt }
        go c0 a0 cs (bit q ∷ (int z ∷ vs)) gs N = record { are = tt }
        go c0 a0 cs (ref c q ∷ (int z ∷ vs)) gs N = record { are = tt }
        go c0 a0 cs (int u ∷ (int z ∷ vs)) gs N =
            let ru = read-operand N.on [] (int u) (int z ∷ vs) (n - 1) refl (omega (arith, N.depth)) (omega arith) in
            let rz = read-operand N.on (int u ∷ []) (int z) vs (n - 2) refl (omega (arith, N.depth)) (omega arith) in
            G m rs c0 a0 cs u z vs gs fs N (ex ∙ rz.0) (ey ∙ ru.0)

    module _ (k : List ℕ) (r : Out) (C : Tells (λ m h. condition out_of_range h) l f n i k r) where
      pub set-low : x < 1 → Tells (λ m h. do_set h) l f n i k r
      set-low h = set-by k r (λ m rs c0 a0 cs u z vs gs fs N ez eu. rw (below-range 1 512 (omega arith) z x ez h) (C m rs _ fs N))

      pub set-high : 512 < x → Tells (λ m h. do_set h) l f n i k r
      set-high h = set-by k r (λ m rs c0 a0 cs u z vs gs fs N ez eu. rw (above-range 1 512 (omega arith) z x ez h) (C m rs _ fs N))

      pub set-level : 255 < y → Tells (λ m h. do_set h) l f n i k r
      set-level h = set-by k r (λ m rs c0 a0 cs u z vs gs fs N ez eu. rw (above-range 0 255 (omega arith) u y eu h, and-false (between 1 512 z)) (C m rs _ fs N))

    pub set_tells : (k1 k2 k3 : List ℕ) → 1 ≤ x → x ≤ 512 → y ≤ 255 → k1 ≡ popped l f (n - 1) → k2 ≡ popped k1 f (n - 2) → k3 ≡ went_to k2 f (i + 1)
        → Tells (λ m h. do_set h) l f n i k3 (Gives (Set x y))
    set_tells k1 k2 k3 h1 h2 h3 e1 e2 e3 = set-by k3 (Gives (Set x y)) (λ m rs c0 a0 cs u z vs gs fs N ez eu.
        let su = all_first (sound_value rs.records) (int u) (int z ∷ vs) (stands N).operands in
        let sz = all_first (sound_value rs.records) (int z) vs su.1 in
        let qz = in-range 1 512 (omega arith) z x (integer-small rs.records z sz.0) ez h1 h2 in
        let qu = in-range 0 255 (omega arith) u y (integer-small rs.records u su.0) eu (omega arith) h3 in
        let p1 = on-pop (int u) N.on (n - 1) (omega (arith, N.depth)) (omega arith) in
        let p2 = on-pop (int z) p1 (n - 2) (omega (arith, N.depth)) (omega arith) in
        rw (qz.0, qu.0) (goes-on (activation c0 a0 cs (int u ∷ (int z ∷ vs)) gs) (event (set (size z) (size u)) ∷ []) (Gives (Set x y)) p2 k3
        (i + 1) (e3 ∙ rw (e2, e1)) (omega (arith, N.address)) (rw (qz.1, qu.1))))

  -- ── holds ──
  pub hold-tells : (g : ℕ) (k1 k2 : List ℕ) → Holding l f → k1 ≡ hold_taken l f g → k2 ≡ went_to k1 f (i + 1) → Tells (λ m h. do_take_hold g h) l f n i k2 (Gives (Hold g))
  unfolding do_take_hold
  hold-tells g k1 k2 h e1 e2 m rs t fs N =
      let p = on-take g N.on h.all-few in
      demanded (ltb (length t.holds) 16) bad_frame _ (λ q. record { are = (goes-to p k2 (i + 1) (suc t.address) (e2 ∙ rw e1) (omega (arith, N.address)), refl) })

  pub release-tells : (h g : ℕ) (k1 k2 : List ℕ) → h ≡ half_at l 6 → 0 < h → h ≤ 512 → g ≡ byte_at l (holds_at + (h - 1)) → k1 ≡ hold_let l f → k2 ≡ went_to k1 f (i + 1)
      → Tells (λ m h. letting h.top.holds h) l f n i k2 (Gives (Release g))
  unfolding all_holds
  release-tells h g k1 k2 eh low high eg e1 e2 m rs t fs N = go t.body t.address t.cells t.operands t.holds N
    where
      go : (c0 a0 : ℕ) (cs : List Cell) (vs : List Value) (gs : List ℕ) → Now m l f n i rs (activation c0 a0 cs vs gs) fs
          → Told (letting gs (here rs (activation c0 a0 cs vs gs) fs)) k2 (Gives (Release g))
      go c0 a0 cs vs [] N = record { are = tt }
      go c0 a0 cs vs (x ∷ gs) N =
          let c : half_at l 6 ≡ suc (length (gs ++ all_holds fs)) = read-holds N.on in
          let x' : byte_at l (holds_at + (h - 1)) ≡ x = read-group N.on [] x (gs ++ all_holds fs) (h - 1) refl (omega arith) (omega arith) in
          let p = on-let x N.on (omega arith) in
          record { are = (goes-to p k2 (i + 1) (suc a0) (e2 ∙ rw e1) (omega (arith, N.address)), ap (λ (z : ℕ). Gives (Release z)) (eg ∙ x')) }

  -- ── end ──
  pub end-tells : (k : List ℕ) → k ≡ finished l → Tells (λ m h. do_end h) l f n i k (Ends 0)
  unfolding do_end all_holds
  end-tells k e m rs t fs N =
      demanded (eqb t.body 0) no_step _ (λ a. demanded (is_empty t.operands) bad_type _ (λ b. demanded (is_empty fs) bad_frame _ (λ c. demanded (is_empty t.holds) group_held _ (λ d.
      record { are = (e ∙ on-finish N.on (few-records N) (nothing t.holds fs d c), refl) }))))
    where
      nothing : (gs : List ℕ) (fs : List Activation) → is_empty gs ≡ true → is_empty fs ≡ true → (gs ++ all_holds fs) ≡ []
      nothing [] [] a b = refl
      nothing [] (u ∷ us) a b = never b
      nothing (g ∷ gs) fs a b = never a
