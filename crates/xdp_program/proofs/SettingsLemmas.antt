-- What is answered for a settings text that spells a setup.
use Rattle.std.proofs.Common.{◌≡◌, ◌≤◌, ◌∙◌, ℕ, List, Option, Some, Result, Ok, Err, length, refl, subst, sym, ap, inl, inr}
use Rattle.std.specs.Prelude.{MatchResult, IfOk, IfErr}
use Rattle.std.proofs.lemmas.Option.{slice_get_within}
use Rattle.bpf_insn.specs.Code.{Spells}
use Rattle.bpf_insn.specs.declared.insn.Insn.{Insn}
use Rattle.bpf_insn.proofs.UniqueLemmas.{one_code}
use Rattle.bpf_lists.specs.declared.list.MapList.{MapList}
use Rattle.bpf_lists.specs.declared.list.MapList.TheVariants.{Rows}
use Rattle.bpf_note.specs.Shape.{most_maps}
use Rattle.bpf_verify.specs.Consistent.{Accepted}
use Rattle.bpf_verify.specs.FirstRefusal.{IsFaultless}
use Rattle.xdp_load.specs.Gives.{fault_of}
use Rattle.xdp_load.specs.Listed.{AreListedBelow, IsFirstUnlisted, IsRowsFault, ListedView, listed_of}
use Rattle.xdp_load.specs.ListedGiven.{IsListedError}
use Rattle.xdp_load.specs.Spot.{Refused}
use Rattle.xdp_load.specs.SpotSeen.{refused_seen}
use Rattle.xdp_load.specs.declared.fault.LoadError.{LoadError}
use Rattle.xdp_load.specs.declared.fault.LoadError.TheVariants as error
use Rattle.xdp_load.specs.declared.fault.TextFault.{TextFault}
use Rattle.xdp_load.specs.declared.fault.TextFault.TheVariants as text
use Rattle.xdp_program.specs.Refused.{IsRefused}
use Rattle.xdp_program.specs.Settings.{IsFaultOf, IsFirstFault, IsProgramOf, IsRelisted, IsRelistFault, IsSettingsFault, IsSettingsOutOfMemory, IsSetupFor, IsSetupOf, relist_out_of_memory}
use Rattle.xdp_program.specs.declared.fault.RelistFault.{RelistFault}
use Rattle.xdp_program.specs.declared.fault.RelistFault.TheVariants as relist
use Rattle.xdp_program.specs.declared.fault.SettingsFault.{SettingsFault}
use Rattle.xdp_program.specs.declared.fault.SettingsFault.TheVariants.{Text, Program}
use Rattle.xdp_program.proofs.LoadLemmas.{AloneMemory, refused_out_of_memory}

pub one_setup : (x y : ListedView) (r : Result ListedView Refused) → r ≡ Ok x → r ≡ Ok y → x ≡ y
one_setup x y r a b = cc (a, b)

pub setup_or_fault : (x : ListedView) (f : Refused) (r : Result ListedView Refused) → r ≡ Ok x → r ≡ Err f → ⊥
setup_or_fault x f r e h = cc (e, h)

-- what is read where no setup is
pub fault_seen : (bytes : List ℕ) (e : LoadError) → IsListedError (listed_of bytes) e → IsFaultOf bytes (fault_of e)
fault_seen bytes error.Memory h = tt
fault_seen bytes (error.Refused r) h = (refused_seen r, h, refl)

-- ---- a setup has no fault

no_rows_fault : (x : ListedView) (r : Result ListedView Refused) (f : Refused) → r ≡ Ok x → AreListedBelow x.lists (length x.lists) → IsRowsFault r f → ⊥
no_rows_fault x r f e all h =
    let same : h.0 ≡ x = one_setup h.0 x r h.2 e in
    let first : IsFirstUnlisted x.lists h.1 = subst (λ (y : ListedView). IsFirstUnlisted y.lists h.1) same h.4 in
    first.unlisted (all h.1 first.rows (slice_get_within x.lists h.1 (Some (Rows first.rows)) first.there) first.there)

no_first_fault : (bytes : List ℕ) (x : ListedView) (r : Refused) → IsSetupOf bytes x → IsFirstFault bytes r → ⊥
no_first_fault bytes x r is (inl e) = setup_or_fault x r (listed_of bytes) is.0 e
no_first_fault bytes x r is (inr h) = no_rows_fault x (listed_of bytes) r is.0 is.1 h

text_out_of_memory : (bytes : List ℕ) (x : ListedView) (f : TextFault) → IsSetupOf bytes x → IsFaultOf bytes f → f ≡ text.Memory
text_out_of_memory bytes x text.Memory is h = refl
text_out_of_memory bytes x (text.Refused f) is h = absurd (no_first_fault bytes x h.0 is h.1)

-- ---- a program

fault_out_of_memory : AloneMemory → (f : SettingsFault) (bytes : List ℕ) → IsSettingsFault bytes f → (x : ListedView) (code : List Insn) → IsSetupOf bytes x → Spells code x.setup.program → IsFaultless code x.setup.shapes → IsSettingsOutOfMemory f
fault_out_of_memory law (Text f) bytes h x code is spells fine = text_out_of_memory bytes x f is h
fault_out_of_memory law (Program f) bytes h x code is spells fine =
    let same : h.0 ≡ x = one_setup h.0 x (listed_of bytes) h.1.0 is.0 in
    let few : length x.setup.shapes ≤ most_maps = subst (λ (y : ListedView). length y.setup.shapes ≤ most_maps) same h.2 in
    refused_out_of_memory law x.setup.program x.setup.shapes code f (subst (λ (y : ListedView). IsRefused y.setup.program y.setup.shapes f) same h.3) spells fine few

pub settings_accepted : {A : Type 0} (of : A → Accepted) → AloneMemory → (r : Result A SettingsFault) (bytes : List ℕ) → IfOk r (λ n. IsProgramOf bytes (of n)) → IfErr r (IsSettingsFault bytes) →
    (x : ListedView) (code : List Insn) → IsSetupOf bytes x → Spells code x.setup.program → IsFaultless code x.setup.shapes → MatchResult r (λ n. ((of n).code ≡ code) × ((of n).shapes ≡ x.setup.shapes)) IsSettingsOutOfMemory
settings_accepted of law (Ok n) bytes h refused x code is spells fine =
    let same : h.0 ≡ x = one_setup h.0 x (listed_of bytes) h.1.0 is.0 in
    (one_code (of n).code code x.setup.program (subst (λ (y : ListedView). Spells (of n).code y.setup.program) same h.2) spells, h.3 ∙ ap (λ (y : ListedView). y.setup.shapes) same)
settings_accepted of law (Err f) bytes program h x code is spells fine = fault_out_of_memory law f bytes h x code is spells fine

-- ---- lists

pub relist_accepted : (r : Result (List (Option MapList)) RelistFault) (bytes : List ℕ) (p : Accepted) → IfOk r (IsRelisted bytes p) → IfErr r (IsRelistFault bytes p) →
    (x : ListedView) → IsSetupOf bytes x → IsSetupFor p x.setup → MatchResult r (λ l. l ≡ x.lists) (λ f. f ≡ relist_out_of_memory)
relist_accepted (Ok l) bytes p h refused x is mine =
    let same : h.0 ≡ x = one_setup h.0 x (listed_of bytes) h.1.0 is.0 in
    h.3 ∙ ap (λ (y : ListedView). y.lists) same
relist_accepted (Err (relist.Text f)) bytes p lists h x is mine = ap relist.Text (text_out_of_memory bytes x f is h)
relist_accepted (Err relist.Other) bytes p lists h x is mine =
    let same : h.0 ≡ x = one_setup h.0 x (listed_of bytes) h.1.0 is.0 in
    absurd (h.2 (subst (λ (y : ListedView). IsSetupFor p y.setup) (sym same) mine))
