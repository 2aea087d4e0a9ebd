-- The check answers what Verdict says, and a table that holds a tree without fault is a program: the proofs for Programs.
use Rattle.std.specs.Prelude.{◌≡◌, refl, Bool, true, false, not, ◌||◌, List, [], ◌∷◌, ◌++◌, ℕ, ◌*◌, ◌/◌, ◌%◌, ◌≤◌, eqb, ltb, length}
use Rattle.std.proofs.Common.{sym, ◌∙◌, ap, append-nil, arith, eqb-true, ltb-true, ltb-false}
use Rattle.std.proofs.lemmas.Bool.{eqb-false}
use Rattle.language.specs.Program.{flatten, table_bytes, Program, in_fields}
use Rattle.logic.specs.Lists.{all}
use Rattle.logic.specs.Choice.{If◌then◌else◌}
use Rattle.words.specs.Laws.{Bytes}
use Rattle.values.specs.Ends.{Refusal, refusal, Judged, accepted, refused}
use Rattle.language.specs.Tree.{Tree}
use Rattle.language.specs.Table.{Read, took, stop, first, form_root, one_tree, read_table}
use Rattle.language.specs.Faults.{faults}
use Rattle.language.specs.Limits.{limits}
use Rattle.language.specs.Judge.{first_fault, judge_tree, judge_table}
use Rattle.logic.specs.Tests.{clash}
use Rattle.language_laws.specs.Bytes.{bytes_back, fields-kept, entries-all, length-bytes}
use Rattle.language_laws.specs.Claims.{Readable, entries_of, Misshapen, empty, over, uneven, Shaped, Holds, Verdict, misshapen, unread, faulty, sound}
use Rattle.language_laws.specs.Roots.{takes-root, yields-root}
use Rattle.language_laws.proofs.StopRoots.{first-stop, first-after}
use Rattle.language_laws.specs.Tests.{none_left, none_right}
use Rattle.language_laws.specs.Trees.{faultless-formed, formed-faultless, limited-keeps, keeps-limited}

-- ── one tree ──
pub read_whole : (t : Tree) → Readable t → first form_root (flatten t) ≡ took t []
read_whole t h = rw (append-nil (flatten t)) at ((takes-root t h).takes [])

holds-one : {l : List ℕ} {t u : Tree} → Holds l t → Holds l u → t ≡ u
holds-one {t = t} {u = u} h k = cc (read_whole t h.readable, read_whole u k.readable, h.same, k.same)

-- ── what the check answers ──
-- a table in shape, by how its entries are read
verdict-read : (l : List ℕ) → Shaped l → (s : Read Tree) → first form_root (entries_of l) ≡ s
    → Verdict l (judge_tree (one_tree (entries_of l) s))
unfolding one_tree
verdict-read l h (took t []) e = go (faults t ++ limits t) refl
  where
    holds : Holds l t
    holds =
        let a = yields-root.yields (entries_of l) [] t e in
        record { shaped = h; readable = a.holds.1; same = a.split ∙ append-nil a.used ∙ a.holds.0 }

    go : (rs : List Refusal) → faults t ++ limits t ≡ rs → Verdict l (first_fault t rs)
    go [] q = sound t holds q
    go (r ∷ rs) q = faulty t holds r rs q
verdict-read l h (took t (x ∷ xs)) e =
    unread h (λ u k. clash (cc (read_whole u k.readable, k.same, e))) _ (first-after (entries_of l) t x xs e)
verdict-read l h (stop xs) e = unread h (λ u k. clash (cc (read_whole u k.readable, k.same, e))) _ (first-stop (entries_of l) xs e)

pub verdict : (l : List ℕ) → Verdict l (judge_table l)
unfolding judge_table read_table
verdict l = go (eqb (length l) 0) (ltb 16384 (length l)) (eqb (length l % 8) 0) refl refl refl
  where
    go : (a b c : Bool) → eqb (length l) 0 ≡ a → ltb 16384 (length l) ≡ b → eqb (length l % 8) 0 ≡ c
        → Verdict l (judge_tree (If a || (b || not c) then refused (refusal 1 0) else one_tree (entries_of l) (first form_root (entries_of l))))
    go true b c p q r = misshapen (empty (eqb-true (length l) 0 p))
    go false true c p q r = misshapen (over (ltb-true 16384 (length l) q))
    go false false false p q r = misshapen (uneven (eqb-false (length l % 8) 0 r))
    go false false true p q r =
        verdict-read l (record { some = omega (arith, eqb-false (length l) 0 p); most = ltb-false 16384 (length l) q; eights = eqb-true (length l % 8) 0 r }) (first form_root (entries_of l)) refl

-- ── programs ──
not-both : {l : List ℕ} → Misshapen l → Shaped l → ⊥
not-both (empty e) s = omega arith
not-both (over e) s = omega arith
not-both (uneven e) s = e s.eights

flatten-some : (t : Tree) → 1 ≤ length (flatten t)
unfolding flatten
flatten-some t = omega arith

-- a program's table holds its tree
program-holds : (l : List ℕ) (p : Program l) → Holds l p.tree
program-holds l p =
    let es = flatten p.tree in
    let n : length l ≡ 8 * length es = ap length (sym p.written) ∙ length-bytes es in
    record {
      shaped = record { some = omega (arith, n, flatten-some p.tree); most = omega (arith, n, p.entries); eights = omega (arith, n) };
      readable = record { layout = p.layout; depth = p.depth; classes = p.classes; procedures = p.procedures };
      same = ap entries_of (sym p.written) ∙ entries-all es p.fields;
    }

-- a table that holds a tree without fault is a program
holds-program : (l : List ℕ) → Bytes l → (t : Tree) → Holds l t → faults t ++ limits t ≡ [] → Program l
holds-program l b t h e =
    let n = length l / 8 in
    let w : table_bytes (flatten t) ≡ l = ap table_bytes (sym h.same) ∙ bytes_back n l b (omega arith) in
    record {
      tree = t;
      written = w;
      fields = ap (all in_fields) (sym h.same) ∙ fields-kept n l b;
      layout = h.readable.layout;
      entries = omega (arith, ap length w, length-bytes (flatten t), h.shaped.most);
      depth = h.readable.depth;
      classes = h.readable.classes;
      procedures = h.readable.procedures;
      well-formed = faultless-formed t (none_left _ _ e);
      keeps-limits = limited-keeps t (none_right (faults t) _ e);
    }

-- what the check answers of a program's table
pub program-verdict : {l : List ℕ} {v : Judged Tree} (p : Program l) → Verdict l v → v ≡ accepted p.tree
program-verdict {l} p (misshapen m) = absurd (not-both m (program-holds l p).shaped)
program-verdict {l} p (unread s k n u) = absurd (k p.tree (program-holds l p))
program-verdict {l} p (faulty t k r rs q) =
    clash (cc (holds-one k (program-holds l p), q, formed-faultless p.tree p.well-formed, keeps-limited p.tree p.keeps-limits))
program-verdict {l} p (sound t k q) = ap accepted (holds-one k (program-holds l p))

-- and what is a program, if it accepts
pub accepted-verdict : {l : List ℕ} {t : Tree} → Bytes l → Verdict l (accepted t) → (p : Program l) × (p.tree ≡ t)
unfolding holds-program
accepted-verdict {l} b (sound t h q) = (holds-program l b t h q, refl)
