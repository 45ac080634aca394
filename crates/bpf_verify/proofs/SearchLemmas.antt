-- A search of the flow graph.
use Rattle.std.proofs.Common.{◌≡◌, ℕ, zero, suc, length, List, [], ◌∷◌, ◌++◌, arith, sym, ◌∙◌, refl, subst, ap, inl, inr, Some, Bool, true, false}
use Rattle.std.specs.Prelude.{Contains, replicate}
use Rattle.std.proofs.lemmas.List.Elements.{Contains-append_left, Contains-append_right, Contains-append_cases}
use Rattle.bpf_insn.specs.declared.insn.Insn.{Insn}
use Rattle.bpf_verify.specs.Paths.{Reaches, here, along}
use Rattle.bpf_verify.specs.Ways.{fall_to, jump_to}
use Rattle.bpf_verify.specs.Edges.{Edge, Flows}
use Rattle.bpf_verify.proofs.WayLemmas.{IsWay, edge_way, fall_edge, jump_edge}
use Rattle.bpf_verify.specs.Marks.{marked, Adds, IsExplored}
use Rattle.bpf_verify.proofs.CycleLemmas.{one_more}

pub the_one : (x q : ℕ) → Contains (x ∷ []) q → q ≡ x
the_one x q (zero, low, is) = sym is
the_one x q (suc k, low, is) = absurd (omega arith)

followed : (code : List Insn) (pc p q : ℕ) (A : Type 0) → p ≡ pc → IsWay code p q → (fall_to code pc ≡ Some q → A) → (jump_to code pc ≡ Some q → A) → A
followed code pc p q A same (inl e) f g = f (ap (fall_to code) (sym same) ∙ e)
followed code pc p q A same (inr e) f g = g (ap (jump_to code) (sym same) ∙ e)

-- one slot taken off the pile, and both its edges followed
pub explored_on : (code : List Insn) (from pc : ℕ) (m m' m'' : List Bool) (pile pile' pile'' : List ℕ) →
    IsExplored (Edge code) from m (pile ++ pc ∷ []) →
    Adds m pile (fall_to code pc) m' pile' → Adds m' pile' (jump_to code pc) m'' pile'' →
    IsExplored (Edge code) from m'' pile''
explored_on code from pc m m' m'' pile pile' pile'' e a b =
    let top : Contains (pile ++ pc ∷ []) pc = Contains-append_right pile (pc ∷ []) pc (0, omega arith, refl) in
    record {
      first = b.kept from (a.kept from e.first);
      sound = λ q mq. elim (b.only q mq) [
        | inl mq' ↦ elim (a.only q mq') [ inl old ↦ e.sound q old | inr is ↦ one_more (e.sound pc (e.piled pc top)) (fall_edge code pc q is) ]
        | inr is ↦ one_more (e.sound pc (e.piled pc top)) (jump_edge code pc q is)
      ];
      piled = λ q at. elim (b.pile_only q at) [
        | inl at' ↦ elim (a.pile_only q at') [ inl old ↦ b.kept q (a.kept q (e.piled q (Contains-append_left pile (pc ∷ []) q old))) | inr is ↦ b.kept q (a.added q is) ]
        | inr is ↦ b.added q is
      ];
      closed = λ p q mp edge. elim (b.piled p mp) [
        | inr on ↦ inl on
        | inl mp' ↦ elim (a.piled p mp') [
          | inr on ↦ inl (b.stays p on)
          | inl old ↦ elim (e.closed p q old edge) [
            | inr mq ↦ inr (b.kept q (a.kept q mq))
            | inl on ↦ elim (Contains-append_cases pile (pc ∷ []) p on) [
              | inl low ↦ inl (b.stays p (a.stays p low))
              | inr last ↦ inr (followed code pc p q (marked m'' q ≡ true) (the_one pc p last) (edge_way code p q edge) (λ is. b.kept q (a.added q is)) (λ is. b.added q is))
            ]
          ]
        ]
      ];
    }

-- what is marked spreads along paths, once the pile is empty
pub spread : {Edge : ℕ → ℕ → Type 0} (m : List Bool) {p q : ℕ} → ((p q : ℕ) → marked m p ≡ true → Edge p q → marked m q ≡ true) → Reaches Edge p q → marked m p ≡ true → marked m q ≡ true
spread m closed here mp = mp
spread m closed (along e l) mp = spread m closed l (closed _ _ mp e)

pub explored_all : (code : List Insn) (from : ℕ) (m : List Bool) (pile : List ℕ) → IsExplored (Edge code) from m pile → length pile ≡ 0 → (q : ℕ) → Flows code from q → marked m q ≡ true
explored_all code from m pile e none q l =
    spread m (λ p r mp edge. elim (e.closed p r mp edge) [ inl on ↦ absurd (omega (arith, on.1)) | inr mr ↦ mr ]) l e.first

-- before the first slot is taken
pub explored_first : (code : List Insn) (from : ℕ) (fresh m : List Bool) (none pile : List ℕ) → ((q : ℕ) → marked fresh q ≡ true → ⊥) → length none ≡ 0 →
    Adds fresh none (Some from) m pile → IsExplored (Edge code) from m pile
explored_first code from fresh m none pile clear empty a = record {
  first = a.added from refl;
  sound = λ q mq. elim (a.only q mq) [ inl old ↦ absurd (clear q old) | inr is ↦ let same : from ≡ q = cc in subst (λ (r : ℕ). Flows code from r) same here ];
  piled = λ q at. elim (a.pile_only q at) [ inl old ↦ absurd (omega (arith, old.1)) | inr is ↦ a.added q is ];
  closed = λ p q mp edge. elim (a.piled p mp) [ inl old ↦ absurd (clear p old) | inr on ↦ inl on ];
}

pub unmarked : (n q : ℕ) → marked (replicate n false) q ≡ true → ⊥
unmarked zero q e = cc
unmarked (suc n) zero e = cc
unmarked (suc n) (suc q) e = unmarked n q e
