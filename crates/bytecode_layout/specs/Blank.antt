-- The first of a row made blank: zeros, rows of blank parts, and the first n parts of a row as a part.
use Rattle.std.specs.Prelude.{◌≡◌, refl, List, [], ◌++◌, length, replicate}
use Rattle.std.proofs.Common.{sym, ap, ◌∙◌, append_assoc, mul-zero}
use Prim.Native.Nat.{ℕ, zero, suc, ◌+◌, ◌*◌, ◌-◌, ◌≤◌}
use Rattle.std.proofs.Math.Nat.{mul-suc}
use native.Mathlib.Omega.{arith}
use Rattle.std.proofs.lemmas.List.{replicate-append-replicate}
use Rattle.std.proofs.lemmas.List.Edits.{sets}
use Rattle.bytecode.specs.State.{pad, flat, zeros}
use Rattle.bytecode_layout.specs.Rows.{length-pad, pad-pad, pad-fill, flat_append, length-flat}
use Rattle.bytecode_layout.specs.Focus.{Focus, within, part-sets}

pub no-zeros : [] ≡ zeros 0
unfolding zeros
no-zeros = refl

pub zeros-join : (a b : ℕ) → zeros (a + b) ≡ zeros a ++ zeros b
unfolding zeros
zeros-join a b = sym (replicate-append-replicate a b 0)

pad-wider : {A : Type 0} (z : A) (n m : ℕ) (xs : List A) → n ≤ m → pad m z (pad n z xs) ≡ pad n z xs ++ replicate (m - n) z
pad-wider z n m xs h = pad-fill z m (pad n z xs) (rw (length-pad z n xs) h) ∙ rw (length-pad z n xs)

pub pad-twice : {A : Type 0} (z : A) (n m : ℕ) (xs : List A) → length xs ≤ n → n ≤ m → pad m z (pad n z xs) ≡ pad m z xs
pad-twice z n m xs h k =
    let e : m - length xs ≡ (n - length xs) + (m - n) = omega arith in
    pad-wider z n m xs k ∙ rw (pad-fill z n xs h, pad-fill z m xs (omega arith), e, ← replicate-append-replicate (n - length xs) (m - n) z)
    (append_assoc xs (replicate (n - length xs) z) (replicate (m - n) z))

-- ── the first n of a row made blank ──
module _ {A : Type 0} (z : A) (enc : A → List ℕ) (w : ℕ) (wide : (x : A) → length (enc x) ≡ w) (blank : zeros w ≡ enc z) where
  pub blank-row : (n : ℕ) → flat enc (pad n z []) ≡ zeros (w * n)
  unfolding flat pad
  blank-row zero = rw (mul-zero w) no-zeros
  blank-row (suc n) =
      let e : w * suc n ≡ w + w * n = mul-suc w n ∙ omega arith in
      rw (e, zeros-join w (w * n), blank, blank-row n)

  -- where a row of m stands, of which at most n are in use, zeros over the first n leave nothing
  pub wipe-row : {whole : List A → List ℕ} {l : List ℕ} {xs : List A} {at : ℕ} (n m : ℕ) → Focus (λ (ys : List A). flat enc (pad m z ys)) whole l xs at
      → (ys : List A) → pad m z xs ≡ pad m z ys → length ys ≤ n → n ≤ m → sets l at (zeros (w * n)) ≡ whole (pad m z [])
  wipe-row {whole} {l} {xs} {at} n m f ys i h k =
      let rest = flat enc (replicate (m - n) z) in
      let s : (us : List A) → flat enc (pad m z (pad n z us)) ≡ flat enc (pad n z us) ++ rest = λ us. ap (flat enc) (pad-wider z n m us k) ∙ flat_append enc (pad n z us) (replicate (m - n) z) in
      let g : Focus (λ (us : List A). flat enc (pad n z us)) (λ (us : List A). flat enc (pad m z (pad m z (pad n z us)))) (flat enc (pad m z xs)) ys 0 =
      record { pre = []; post = rest; place = refl; split = λ us. ap (flat enc) (pad-pad z m (pad n z us)) ∙ s us; now = ap (flat enc) (i ∙ sym (pad-twice z n m ys h k)) ∙ s ys } in
      let e : at + 0 ≡ at = omega arith in
      let c : length (flat enc (pad n z ys)) ≡ length (flat enc (pad n z [])) =
      length-flat enc w wide (pad n z ys) ∙ ap (λ (j : ℕ). j * w) (length-pad z n ys ∙ sym (length-pad z n [])) ∙ sym (length-flat enc w wide (pad n z [])) in
      rw (← blank-row n, ← e) (part-sets (within (λ (us : List A). pad m z (pad n z us)) f g) [] c) ∙ ap whole (pad-twice z n m [] (omega arith) k)
