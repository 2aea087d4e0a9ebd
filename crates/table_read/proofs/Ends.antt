-- The walk over the operand table answers what the definition reads: one law for each way to make a reader of readers.
-- Assumes nothing.
use mathlib.Core.Path.{◌≡◌, refl, ap}
use mathlib.Core.Bool.{Bool, true, false, ◌&&◌}
use mathlib.Core.List.{List, [], ◌∷◌, ◌++◌}
use Prim.Native.Nat.{ℕ, zero, suc, ◌+◌, ◌≤◌}
use native.Mathlib.Omega.{arith}
use native.Mathlib.Nat.{add-zero}
use lib.ListN.{length, drop, replicate, length-drop}
use lib.Seq.{drop-drop}
use Rattle.logic.specs.Choice.{If◌then◌else◌}
use Rattle.language.specs.Table as table
use Rattle.language.specs.Table.{Entry, in_layout, took, stop, Reader, after, made, repeated, first}
use Rattle.table_read.specs.declared.kinds.Sort.{Sort}
use Rattle.std.specs.Prelude.{Result, Ok, Err}
use Rattle.table_read.specs.Walk.{counted, moved, onward, chain, sorts_of, entered}

-- as many entries as the answer counts, and then the entries that are left
pub data Ends {A : Type 0} (es : List Entry) : table.Read A → Result ℕ ℕ → Type 0 where
  ended : (x : A) (n : ℕ) → n ≤ length es → Ends es (took x (drop n es)) (Ok n)
  halted : (n : ℕ) → n ≤ length es → Ends es (stop (drop n es)) (Err n)

-- w answers what r reads
pub record Same {A : Type 0} (r : Reader A) (w : List Entry → Result ℕ ℕ) : Type 0 where
  pub ends : (es : List Entry) → Ends es (r es) (w es)

pub ends-count : {A : Type 0} {es : List Entry} {x : table.Read A} {a : Result ℕ ℕ} → Ends es x a → counted a ≤ length es
ends-count (ended x n h) = h
ends-count (halted n h) = h

-- what is read k entries further on
pub ends-moved : {A : Type 0} {x : table.Read A} {a : Result ℕ ℕ} (es : List Entry) (k : ℕ) → k ≤ length es → Ends (drop k es) x a → Ends es x (moved k a)
ends-moved es k h (ended x n g) = rw (drop-drop n k es) (ended x (k + n) (omega (arith, length-drop k es)))
ends-moved es k h (halted n g) = rw (drop-drop n k es) (halted (k + n) (omega (arith, length-drop k es)))

pub ends-made : {A B : Type 0} {es : List Entry} {x : table.Read A} {a : Result ℕ ℕ} (f : A → B) → Ends es x a → Ends es (after x (λ y. took (f y))) a
unfolding after
ends-made f (ended x n l) = ended (f x) n l
ends-made f (halted n l) = halted n l

-- what follows a part is read from where it ends
pub ends-then : {A B : Type 0} (es : List Entry) {x : table.Read A} {a : Result ℕ ℕ} (f : A → Reader B) (g : List Entry → Result ℕ ℕ) → Ends es x a
    → ((y : A) (fs : List Entry) → Ends fs (f y fs) (g fs)) → Ends es (after x f) (onward a (λ n. g (drop n es)))
unfolding after
ends-then es f g (ended x n l) k = ends-moved es n l (k x (drop n es))
ends-then es f g (halted n l) k = halted n l

-- ── operands, one after the other ──
module _ (w : Sort → List Entry → Result ℕ ℕ) where
  -- r reads what operands of the sorts ss are
  pub record Chained {A : Type 0} (r : Reader A) (ss : List Sort) : Type 0 where
    pub ends : (es : List Entry) → Ends es (r es) (chain w ss es)

  pub same-eq : {A : Type 0} {r q : Reader A} {ss : List Sort} → Chained r ss → ((es : List Entry) → q es ≡ r es) → Chained q ss
  same-eq h e = record { ends = λ es. rw (e es) (h.ends es) }

  pub same-made : {A B : Type 0} {r : Reader A} {ss : List Sort} (f : A → B) → Chained r ss → Chained (made f r) ss
  same-made f h = record { ends = λ es. ends-made f (h.ends es) }

  pub same_none : {A : Type 0} (x : A) → Chained (took x) []
  unfolding chain
  same_none x = record { ends = λ es. ended x 0 (omega arith) }

  pub same-one : {A : Type 0} {r : Reader A} {s : Sort} → Same r (w s) → Chained r (s ∷ [])
  unfolding chain
  same-one {s = s} h = record { ends = λ es. rw (none (w s es)) (h.ends es) }
    where
      none : (a : Result ℕ ℕ) → onward a (λ n. Ok 0) ≡ a
      none (Ok n) = ap Ok (add-zero n)
      none (Err p) = refl

  pub same_then : {A B : Type 0} {r : Reader A} {s : Sort} {ss : List Sort} (f : A → Reader B) → Same r (w s) → ((x : A) → Chained (f x) ss)
      → Chained (λ es. after (r es) f) (s ∷ ss)
  unfolding chain
  same_then {ss = ss} f h k = record { ends = λ es. ends-then es f (chain w ss) (h.ends es) (λ x fs. (k x).ends fs) }

  -- what is made of a part, and then what follows it
  pub made_after : {A B C : Type 0} (x : table.Read A) (mk : A → B) (f : B → Reader C) → after (after x (λ y. took (mk y))) f ≡ after x (λ y. f (mk y))
  unfolding after
  made_after (took y es) mk f = refl
  made_after (stop es) mk f = refl

  after-after : {A B C D : Type 0} (x : table.Read A) (g : Reader B) (mk : A → B → C) (f : C → Reader D)
      → after (after x (λ y rest. after (g rest) (λ z. took (mk y z)))) f ≡ after x (λ y rest. after (g rest) (λ z. f (mk y z)))
  unfolding after
  after-after (took y es) g mk f = made_after (g es) (mk y) f
  after-after (stop es) g mk f = refl

  -- as many as a count says
  pub same-times : {A : Type 0} {r : Reader A} {s : Sort} → Same r (w s) → (n : ℕ) → Chained (repeated n r) (replicate n s)
  unfolding repeated
  same-times h zero = same_none []
  same-times {r = r} h (suc n) = same_then (λ x rest. after (repeated n r rest) (λ xs. took (x ∷ xs))) h (λ x. same-made (λ xs. x ∷ xs) (same-times h n))

  pub times-then : {A B : Type 0} {r : Reader A} {s : Sort} {ss : List Sort} → Same r (w s) → (n : ℕ) (f : List A → Reader B)
      → ((xs : List A) → Chained (f xs) ss) → Chained (λ es. after (repeated n r es) f) (replicate n s ++ ss)
  unfolding repeated after
  times-then h zero f k = k []
  times-then {r = r} h (suc n) f k =
      same-eq (same_then (λ x rest. after (repeated n r rest) (λ xs. f (x ∷ xs))) h (λ x. times-then h n (λ xs. f (x ∷ xs)) (λ xs. k (x ∷ xs))))
      (λ es. after-after (r es) (repeated n r) (λ x xs. x ∷ xs) f)

-- ── an entry ──
-- what follows an entry is read one further on
pub ends-entry : {A : Type 0} {x : table.Read A} {a : Result ℕ ℕ} (e : Entry) (es : List Entry) → Ends es x a → Ends (e ∷ es) x (moved 1 a)
ends-entry e es h = ends-moved (e ∷ es) 1 (omega arith) h

pub ends-if : {A : Type 0} {es : List Entry} {x y : table.Read A} {a c : Result ℕ ℕ} (b : Bool) → Ends es x a → Ends es y c
    → Ends es (If b then x else y) (If b then a else c)
ends-if true h k = h
ends-if false h k = k

pub ends-stop : {A : Type 0} (es : List Entry) → Ends {A = A} es (stop es) (Err 0)
ends-stop es = halted 0 (omega arith)

-- the entry that stands here, if it keeps to the layout and is of a kind that is admitted
pub same_first : {A : Type 0} (w : Sort → List Entry → Result ℕ ℕ) (p : ℕ → Bool) (f : Entry → Reader A)
    → ((e : Entry) (es : List Entry) → in_layout e ≡ true → Ends (e ∷ es) (f e es) (If p e.kind then moved 1 (chain w (sorts_of e) es) else Err 0))
    → Same (first f) (entered w p)
unfolding first entered
same_first {A} w p f h = record { ends = at }
  where
    here : (e : Entry) (es : List Entry) (b : Bool) → in_layout e ≡ b
        → Ends {A = A} (e ∷ es) (If b then f e es else stop (e ∷ es)) (If b && p e.kind then moved 1 (chain w (sorts_of e) es) else Err 0)
    here e es true l = h e es l
    here e es false l = ends-stop (e ∷ es)

    at : (es : List Entry) → Ends es (first f es) (entered w p es)
    at [] = ends-stop []
    at (e ∷ es) = here e es (in_layout e) refl
