-- The loading rules' state flows through the instructions of a loop.
use Rattle.std.specs.Prelude.{◌≡◌, List, ◌∷◌, ℕ, suc, ◌+◌, ◌≤◌, ℤ, pos, negsuc, length}
use Rattle.std.proofs.Math.Path.{refl}
use Rattle.std.proofs.Math.Option.{none, some}
use Rattle.std.proofs.Common.{arith}
use Rattle.values.specs.Types.{Ty, integer, logical, sames}
use Rattle.values.specs.Operators.{plus, minus, less, at_most, greater, at_least, equal, op_type}
use Rattle.values.specs.Ends.{step_zero}
use Rattle.values.specs.Values.{int}
use Rattle.bytecode.specs.Macro.{Shape, shape, Macro}
use Rattle.bytecode.specs.Instructions.{own, push, cell_ty}
use Rattle.bytecode.specs.Rules.{effect}
use Rattle.compile_code.specs.Code.{Code, op, ◌▸◌, At, ahead, skip, after}
use Rattle.compile_code.specs.Compile.{most_integer, least_integer, code_stored, code_downward, code_upward, code_once, code_entered, code_turned}
use Rattle.compile_rules.specs.Flows.{Seg, Marks, pushes, loads, stores, operates, tests, goes, stopped, marks-on, marks-here}

module _ (m : Macro) (k : ℕ) (Aim : ℕ → Shape → Type 0) (h : ℕ) (ts : List Ty) (few : h ≤ 16) (room : 3 + length ts ≤ 32) where
  pushes-int : (z : ℤ) (us : List Ty) → suc (length us) ≤ 32 → Seg m k Aim (op (push (int z))) (some (shape h us)) (some (shape h (integer ∷ us)))
  unfolding effect
  pushes-int z us l = pushes m k Aim (push (int z)) h integer us refl few l

  module _ (c : ℕ) (tv : cell_ty m k own c ≡ some integer) (td : cell_ty m k own (suc c) ≡ some integer) (tl : cell_ty m k own (suc (suc c)) ≡ some integer) where
    pass-stored : (x : ℕ) → Aim (ahead 8 x) (shape h ts) → Seg m k Aim (code_stored c x (shape h ts)) (some (shape h (integer ∷ (integer ∷ (integer ∷ ts))))) (some (shape h ts))
    unfolding code_stored Seg op_type sames
    pass-stored x a8 = (
      some (shape h (integer ∷ (integer ∷ ts))),
      stores m k Aim own (suc (suc c)) h integer (integer ∷ (integer ∷ ts)) tl few (omega arith),
      (
        some (shape h (integer ∷ ts)),
        stores m k Aim own (suc c) h integer (integer ∷ ts) td few (omega arith),
        (
          some (shape h ts),
          stores m k Aim own c h integer ts tv few (omega arith),
          (
            some (shape h (integer ∷ ts)),
            loads m k Aim own (suc c) h integer ts td few (omega arith),
            (
              some (shape h (integer ∷ (integer ∷ ts))),
              pushes-int (pos 0) (integer ∷ ts) (omega arith),
              (
                some (shape h (logical ∷ ts)),
                operates m k Aim equal h integer integer logical ts refl few (omega arith),
                (
                  some (shape h ts),
                  tests m k Aim (ahead 8 x) h logical ts refl a8,
                  (
                    none,
                    stopped m k Aim step_zero h ts,
                    marks-here m k Aim h ts few (omega arith),
                  ),
                ),
              ),
            ),
          ),
        ),
      ),
    )

    pass-downward : (x z : ℕ) → Aim (ahead 29 x) (shape h ts) → Aim z (shape h ts) → Aim (ahead 44 x) (shape h ts) → Aim (ahead 48 x) (shape h ts)
        → Seg m k Aim (code_downward c x z (shape h ts)) (some (shape h ts)) (some (shape h ts))
    unfolding code_downward Seg op_type sames
    pass-downward x z a29 az a44 a48 = (
      some (shape h (integer ∷ ts)),
      loads m k Aim own (suc c) h integer ts td few (omega arith),
      (
        some (shape h (integer ∷ (integer ∷ ts))),
        pushes-int (pos 0) (integer ∷ ts) (omega arith),
        (
          some (shape h (logical ∷ ts)),
          operates m k Aim less h integer integer logical ts refl few (omega arith),
          (
            some (shape h ts),
            tests m k Aim (ahead 29 x) h logical ts refl a29,
            (
              some (shape h (integer ∷ ts)),
              loads m k Aim own c h integer ts tv few (omega arith),
              (
                some (shape h (integer ∷ (integer ∷ ts))),
                loads m k Aim own (suc (suc c)) h integer (integer ∷ ts) tl few (omega arith),
                (
                  some (shape h (logical ∷ ts)),
                  operates m k Aim at_least h integer integer logical ts refl few (omega arith),
                  (
                    some (shape h ts),
                    tests m k Aim z h logical ts refl az,
                    (
                      some (shape h (integer ∷ ts)),
                      loads m k Aim own (suc (suc c)) h integer ts tl few (omega arith),
                      (
                        some (shape h (integer ∷ (integer ∷ ts))),
                        pushes-int (most_integer) (integer ∷ ts) (omega arith),
                        (
                          some (shape h (integer ∷ (integer ∷ (integer ∷ ts)))),
                          loads m k Aim own (suc c) h integer (integer ∷ (integer ∷ ts)) td few (omega arith),
                          (
                            some (shape h (integer ∷ (integer ∷ ts))),
                            operates m k Aim plus h integer integer integer (integer ∷ ts) refl few (omega arith),
                            (
                              some (shape h (logical ∷ ts)),
                              operates m k Aim at_most h integer integer logical ts refl few (omega arith),
                              (
                                some (shape h ts),
                                tests m k Aim (ahead 44 x) h logical ts refl a44,
                                (
                                  some (shape h (integer ∷ ts)),
                                  loads m k Aim own (suc (suc c)) h integer ts tl few (omega arith),
                                  (
                                    some (shape h (integer ∷ (integer ∷ ts))),
                                    loads m k Aim own (suc c) h integer (integer ∷ ts) td few (omega arith),
                                    (
                                      some (shape h (integer ∷ ts)),
                                      operates m k Aim minus h integer integer integer ts refl few (omega arith),
                                      (
                                        some (shape h (integer ∷ (integer ∷ ts))),
                                        pushes-int (pos 1) (integer ∷ ts) (omega arith),
                                        (
                                          some (shape h (integer ∷ ts)),
                                          operates m k Aim minus h integer integer integer ts refl few (omega arith),
                                          (
                                            some (shape h ts),
                                            stores m k Aim own (suc (suc c)) h integer ts tl few (omega arith),
                                            (
                                              none,
                                              goes m k Aim (ahead 48 x) h ts a48,
                                              marks-here m k Aim h ts few (omega arith),
                                            ),
                                          ),
                                        ),
                                      ),
                                    ),
                                  ),
                                ),
                              ),
                            ),
                          ),
                        ),
                      ),
                    ),
                  ),
                ),
              ),
            ),
          ),
        ),
      ),
    )

    pass-upward : (x z : ℕ) → Aim z (shape h ts) → Aim (ahead 44 x) (shape h ts) → Aim (ahead 48 x) (shape h ts) → Seg m k Aim (code_upward c x z (shape h ts)) (some (shape h ts)) (some (shape h ts))
    unfolding code_upward Seg op_type sames
    pass-upward x z az a44 a48 = (
      some (shape h (integer ∷ ts)),
      loads m k Aim own c h integer ts tv few (omega arith),
      (
        some (shape h (integer ∷ (integer ∷ ts))),
        loads m k Aim own (suc (suc c)) h integer (integer ∷ ts) tl few (omega arith),
        (
          some (shape h (logical ∷ ts)),
          operates m k Aim at_most h integer integer logical ts refl few (omega arith),
          (
            some (shape h ts),
            tests m k Aim z h logical ts refl az,
            (
              some (shape h (integer ∷ ts)),
              loads m k Aim own (suc (suc c)) h integer ts tl few (omega arith),
              (
                some (shape h (integer ∷ (integer ∷ ts))),
                pushes-int (least_integer) (integer ∷ ts) (omega arith),
                (
                  some (shape h (integer ∷ (integer ∷ (integer ∷ ts)))),
                  loads m k Aim own (suc c) h integer (integer ∷ (integer ∷ ts)) td few (omega arith),
                  (
                    some (shape h (integer ∷ (integer ∷ ts))),
                    operates m k Aim plus h integer integer integer (integer ∷ ts) refl few (omega arith),
                    (
                      some (shape h (logical ∷ ts)),
                      operates m k Aim at_least h integer integer logical ts refl few (omega arith),
                      (
                        some (shape h ts),
                        tests m k Aim (ahead 44 x) h logical ts refl a44,
                        (
                          some (shape h (integer ∷ ts)),
                          loads m k Aim own (suc (suc c)) h integer ts tl few (omega arith),
                          (
                            some (shape h (integer ∷ (integer ∷ ts))),
                            loads m k Aim own (suc c) h integer (integer ∷ ts) td few (omega arith),
                            (
                              some (shape h (integer ∷ ts)),
                              operates m k Aim minus h integer integer integer ts refl few (omega arith),
                              (
                                some (shape h ts),
                                stores m k Aim own (suc (suc c)) h integer ts tl few (omega arith),
                                (
                                  none,
                                  goes m k Aim (ahead 48 x) h ts a48,
                                  marks-here m k Aim h ts few (omega arith),
                                ),
                              ),
                            ),
                          ),
                        ),
                      ),
                    ),
                  ),
                ),
              ),
            ),
          ),
        ),
      ),
    )

    pass-once : Seg m k Aim (code_once c (shape h ts)) (some (shape h ts)) (some (shape h ts))
    unfolding code_once Seg op_type sames
    pass-once = (
      some (shape h (integer ∷ ts)),
      pushes-int (negsuc 0) ts (omega arith),
      (
        some (shape h ts),
        stores m k Aim own (suc c) h integer ts td few (omega arith),
        (
          some (shape h (integer ∷ ts)),
          pushes-int (most_integer) ts (omega arith),
          (
            some (shape h ts),
            stores m k Aim own (suc (suc c)) h integer ts tl few (omega arith),
            marks-on m k Aim h ts few (omega arith),
          ),
        ),
      ),
    )

    pub pass-entered : (x z : ℕ) → Aim (ahead 8 x) (shape h ts) → Aim (ahead 29 x) (shape h ts) → Aim z (shape h ts) → Aim (ahead 44 x) (shape h ts) → Aim (ahead 48 x) (shape h ts)
        → Seg m k Aim (code_entered c x z (shape h ts)) (some (shape h (integer ∷ (integer ∷ (integer ∷ ts))))) (some (shape h ts))
    unfolding Seg
    pass-entered x z a8 a29 az a44 a48 =
        (some (shape h ts), pass-stored x a8, (some (shape h ts), pass-downward x z a29 az a44 a48, (some (shape h ts), pass-upward x z az a44 a48, pass-once)))

    pub pass-turned : (b z : ℕ) → Aim b (shape h ts) → Aim z (shape h ts) → Seg m k Aim (code_turned c b z (shape h ts)) (some (shape h ts)) (some (shape h ts))
    unfolding code_turned Seg op_type sames
    pass-turned b z ab az = (
      some (shape h (integer ∷ ts)),
      loads m k Aim own (suc c) h integer ts td few (omega arith),
      (
        some (shape h (integer ∷ (integer ∷ ts))),
        pushes-int (pos 0) (integer ∷ ts) (omega arith),
        (
          some (shape h (logical ∷ ts)),
          operates m k Aim less h integer integer logical ts refl few (omega arith),
          (
            some (shape h (integer ∷ (logical ∷ ts))),
            loads m k Aim own c h integer (logical ∷ ts) tv few (omega arith),
            (
              some (shape h (integer ∷ (integer ∷ (logical ∷ ts)))),
              loads m k Aim own (suc (suc c)) h integer (integer ∷ (logical ∷ ts)) tl few (omega arith),
              (
                some (shape h (logical ∷ (logical ∷ ts))),
                operates m k Aim greater h integer integer logical (logical ∷ ts) refl few (omega arith),
                (
                  some (shape h (logical ∷ ts)),
                  operates m k Aim equal h logical logical logical ts refl few (omega arith),
                  (
                    some (shape h ts),
                    tests m k Aim z h logical ts refl az,
                    (
                      some (shape h (integer ∷ ts)),
                      loads m k Aim own c h integer ts tv few (omega arith),
                      (
                        some (shape h (integer ∷ (integer ∷ ts))),
                        loads m k Aim own (suc c) h integer (integer ∷ ts) td few (omega arith),
                        (
                          some (shape h (integer ∷ ts)),
                          operates m k Aim plus h integer integer integer ts refl few (omega arith),
                          (
                            some (shape h ts),
                            stores m k Aim own c h integer ts tv few (omega arith),
                            (
                              none,
                              goes m k Aim b h ts ab,
                              marks-here m k Aim h ts few (omega arith),
                            ),
                          ),
                        ),
                      ),
                    ),
                  ),
                ),
              ),
            ),
          ),
        ),
      ),
    )

-- where its marks stand, and where its statement stands
module _ (m : Macro) (k : ℕ) (Aim : ℕ → Shape → Type 0) (c z b : ℕ) (s : Shape) (p : At) (y : Code) where
  pub marks-loop : Marks m k Aim (code_entered c p.address z s ▸ (y ▸ code_turned c b z s)) p
      → Aim (ahead 8 p.address) s × Aim (ahead 29 p.address) s × Aim (ahead 44 p.address) s × Aim (ahead 48 p.address) s × Marks m k Aim y (skip 48 p)
      × Aim (ahead 13 (after y (skip 48 p)).address) s
  unfolding Marks after code_stored code_downward code_upward code_once code_turned
  marks-loop g = (
    g.0.0.1.1.1.1.1.1.1.1,
    g.0.1.0.1.1.1.1.1.1.1.1.1.1.1.1.1.1.1.1.1.1.1.1.1,
    g.0.1.1.0.1.1.1.1.1.1.1.1.1.1.1.1.1.1.1,
    g.0.1.1.1.1.1.1.1,
    g.1.0,
    g.1.1.1.1.1.1.1.1.1.1.1.1.1.1.1,
  )
