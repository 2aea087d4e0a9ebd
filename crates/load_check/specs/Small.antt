-- How large the numbers of a refusal can be: they fit the fields that answers are packed into. And the place of the first instruction.
use Rattle.std.specs.Prelude.{◌≡◌, refl, Bool, cond, List, eqb, length}
use Rattle.std.proofs.Math.Bool.{true, false}
use Prim.Native.Nat.{ℕ, zero, suc, ◌+◌, ◌*◌, ◌≤◌, ◌<◌}
use native.Mathlib.Omega.{arith}
use Rattle.std.proofs.Math.Dec.{ltb}
use borrow.Author.Tests.{ltb-true}
use Rattle.words.specs.Laws.{Bytes}
use Rattle.load_places.specs.Search.{first}
use Rattle.load_places.specs.Records.{classes, bodies, count, shapes, class_place, body_place, code_base, shape_place, bad_head, bad_class, bad_body, bad_code, bad_shape, no_mark}
use Rattle.load_places.specs.Records.{Read, reads, unread, among, read_end, read_records}
use Rattle.load_places.specs.Rules.{Verdict, passes, refused, verdict, broken, judge}
use Rattle.load_places.specs.Index.{Well}
use Rattle.load_records.proofs.Known.{head_of, class-of}

-- a record's index below N
abbrev Below : ℕ → Read → Type 0
Below N reads = Unit {0}
Below N (unread k) = k < N

among_below : (r n k N : ℕ) (rest : Read) → k + n ≤ N → Below N rest → Below N (among r n k rest)
among_below r n k N rest h b = go (ltb r n) refl
  where
    go : (t : Bool) → ltb r n ≡ t → Below N (cond t (unread (k + r)) rest)
    go true e = omega (arith, ltb-true r n e)
    go false e = b

cond_below : (t : Bool) (N : ℕ) (x y : Read) → Below N x → Below N y → Below N (cond t x y)
cond_below true N x y h k = h
cond_below false N x y h k = k

-- the numbers of a refusal: 8 or 9, and a place of 24 bits
abbrev pub Narrow : Verdict → Type 0
Narrow passes = Unit {0}
Narrow (refused n p) = (n < 256) × (p < 16777216)

module _ (l : List ℕ) (b : Bytes l) where
  read_below : Below 16777216 (read_records l)
  unfolding read_records read_end
  read_below =
      let c2 = b 2 in let c3 = b 3 in let c4 = b 4 in let c5 = b 5 in let c6 = b 6 in let c7 = b 7 in
      let last : Below 16777216 (read_end l (shape_place l (shapes l)) (1 + classes l + bodies l + count l + shapes l)) =
      cond_below (no_mark l (shape_place l (shapes l)) 2 90 90) 16777216 (unread _) _ (omega arith)
      (cond_below (eqb (length l) (shape_place l (shapes l) + 2)) 16777216 reads (unread _) tt (omega arith)) in
      cond_below (bad_head l) 16777216 (unread 0) _ (omega arith)
      (among_below (first (bad_class l) (classes l)) (classes l) 1 16777216 _ (omega arith)
      (among_below (first (bad_body l) (bodies l)) (bodies l) (1 + classes l) 16777216 _ (omega arith)
      (among_below (first (bad_code l) (count l)) (count l) (1 + classes l + bodies l) 16777216 _ (omega arith)
      (among_below (first (bad_shape l) (shapes l)) (shapes l) (1 + classes l + bodies l + count l) 16777216 _ (omega arith) last))))

  pub narrow : Narrow (judge l)
  unfolding judge
  narrow = go (read_records l) read_below
    where
      at_address : (t : Bool) → ltb (first (broken l) (count l)) (count l) ≡ t → Narrow (cond t (refused 9 (first (broken l) (count l))) passes)
      at_address true e = (omega arith, omega (arith, ltb-true (first (broken l) (count l)) (count l) e, b 4, b 5))
      at_address false e = tt

      go : (r : Read) → Below 16777216 r → Narrow (verdict l r)
      go (unread k) h = (omega arith, h)
      go reads h = at_address (ltb (first (broken l) (count l)) (count l)) refl

-- ── the place of the first instruction is small ──
module _ (c : List ℕ) (W : Well c) (B : Bytes c) where
  class-high : (k : ℕ) → k ≤ classes c → class_place c k ≤ 8 + 11 * k
  unfolding class_place
  class-high zero h = omega arith
  class-high (suc k) h = omega (arith, class-high k (omega arith), (class-of c W k h).few)

  body-high : (k : ℕ) → body_place c k ≤ 184 + 262 * k
  unfolding body_place
  body-high zero = omega (arith, class-high (classes c) (omega arith), (head_of c W).few-classes)
  body-high (suc k) = omega (arith, body-high k, B (body_place c k + 6))

  pub base-small : code_base c < 65536
  base-small = omega (arith, body-high (bodies c), (head_of c W).few-bodies)
