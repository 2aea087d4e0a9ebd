-- How the answers of the three parts of the check make up the verdict on a table.
use Rattle.std.specs.Prelude.{◌≡◌, refl, List, [], ◌∷◌, ◌++◌, ℕ, ◌≤◌, Result, Ok, Err, ⊤}
use Rattle.std.proofs.Common.{sym, ◌∙◌, arith}
use Rattle.std.proofs.Math.Path.{ap}
use Rattle.values.specs.Ends.{Refusal, refusal, Judged, accepted, refused}
use Rattle.values.specs.declared.Refusal as code
use Rattle.values.specs.Refusals.{in_code}
use Rattle.language.specs.Tree.{Tree}
use Rattle.language.specs.Table.{read_table}
use Rattle.language.specs.Faults.{faults}
use Rattle.language.specs.Limits.{limits}
use Rattle.language.specs.Judge as judge
use Rattle.language.specs.Judge.{judge_tree, judge_table}
use Rattle.logic.specs.Tests.{clash}
use Rattle.table_entries.specs.declared.Fault.{Fault}
use Rattle.table_entries.specs.Faults.{refusal_of, told}
use Rattle.table_read.specs.Walk.{reading_of}
use Rattle.table_forms.specs.Tables.{Reads}
use Rattle.table_names.specs.Answer.{GivesFirst, first_fault}
use Rattle.table_limits.specs.Usage.{Limits, limited_of}
use Rattle.table_check.specs.Small.{Narrow, narrow, Sixes, sixes}
use Rattle.table_check.specs.Checked.{checked_of}

-- ── reading ──
pub unread : (l : List ℕ) (f : Fault) → Err (refusal_of f) ≡ reading_of (read_table l) → Err (refusal_of f) ≡ reading_of (judge_table l)
unfolding judge_table
unread l f e = go (read_table l) e
  where
    go : (j : Judged Tree) → Err (refusal_of f) ≡ reading_of j → Err (refusal_of f) ≡ reading_of (judge_tree j)
    go (accepted t) h = clash (cc)
    go (refused r) h = h

-- ── faults, and then limits ──
tree-judged : (l : List ℕ) (r : Reads l) → judge_table l ≡ judge.first_fault r.0 (faults r.0 ++ limits r.0)
unfolding judge_table
tree-judged l r = ap judge_tree r.1

limit-is : (f : Refusal) (p : ℕ) → f.number ≡ 6 → f.place ≡ p → refusal 6 p ≡ f
limit-is f p e q = rw (sym e, sym q)

module _ (l : List ℕ) (r : Reads l) {v : Result ⊤ Fault} (g : GivesFirst l v) where
  pub faulty : (f : Fault) → v ≡ Err f → Err (refusal_of f) ≡ reading_of (judge_table l)
  faulty f e = rw (tree-judged l r) (go (faults r.0) (sym (ap told e) ∙ g r.0 r.1))
    where
      go : (fs : List Refusal) → Err (refusal_of f) ≡ first_fault fs → Err (refusal_of f) ≡ reading_of (judge.first_fault r.0 (fs ++ limits r.0))
      go [] h = clash (cc)
      go (q ∷ fs) h = h

  module _ (e : v ≡ Ok tt) {u : Result ⊤ ℕ} (k : Limits l u) where
    limits-judged : judge_table l ≡ judge.first_fault r.0 (limits r.0)
    limits-judged = tree-judged l r ∙ go (faults r.0) (sym (ap told e) ∙ g r.0 r.1)
      where
        go : (fs : List Refusal) → Ok tt ≡ first_fault fs → judge.first_fault r.0 (fs ++ limits r.0) ≡ judge.first_fault r.0 (limits r.0)
        go [] h = refl
        go (f ∷ fs) h = clash (cc)

    pub over : (p : ℕ) → u ≡ Err p → Err (refusal 6 p) ≡ reading_of (judge_table l)
    over p z = rw limits-judged (go (limits r.0) (sixes l r.0 r.1) (sym z ∙ k r.0 r.1))
      where
        go : (fs : List Refusal) → Sixes 2048 fs → Err p ≡ limited_of fs → Err (refusal 6 p) ≡ reading_of (judge.first_fault r.0 fs)
        go [] s h = clash (cc)
        go (f ∷ fs) s h = ap Err (limit-is f p s.0 (cc))

    pub within : u ≡ Ok tt → Ok tt ≡ reading_of (judge_table l)
    within z = rw limits-judged (go (limits r.0) (sym z ∙ k r.0 r.1))
      where
        go : (fs : List Refusal) → Ok tt ≡ limited_of fs → Ok tt ≡ reading_of (judge.first_fault r.0 fs)
        go [] h = refl
        go (f ∷ fs) h = clash (cc)

-- ── the verdict in the code's numbers ──
pub accepts : (j : Judged Tree) → Ok tt ≡ reading_of j → Ok tt ≡ checked_of j
accepts (accepted t) h = refl
accepts (refused r) h = clash (cc)

pub refuses : (j : Judged Tree) (r : Refusal) → Err r ≡ reading_of j → Err (in_code r) ≡ checked_of j
refuses (accepted t) r h = clash (cc)
refuses (refused q) r h = let z : r ≡ q = cc in rw z

-- ── a refusal's place is at most the entry count ──
pub place-small : (l : List ℕ) (r : code.Refusal) → Err r ≡ checked_of (judge_table l) → r.place ≤ 2048
place-small l r e = go (judge_table l) (narrow l) e
  where
    go : (j : Judged Tree) → Narrow j → Err r ≡ checked_of j → r.place ≤ 2048
    go (accepted t) h k = clash (cc)
    go (refused q) h k = let z : r ≡ in_code q = cc in omega (arith, h.1, ap (λ (x : code.Refusal). x.place) z)
