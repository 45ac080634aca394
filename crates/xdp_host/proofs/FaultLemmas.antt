-- Faults: of maps, and where memory ran out.
use Rattle.std.proofs.Common.{◌≡◌, ◌<◌, ◌≤◌, ℕ, List, Result, Ok, Err, length, sym, subst}
use Rattle.std.specs.Prelude.{IfOk, IfErr}
use Rattle.std.proofs.lemmas.List.{get_or-map, length-map}
use Rattle.bpf_insn.specs.declared.refusal.Cause.TheVariants.{Memory}
use Rattle.bpf_insn.specs.declared.refusal.Refusal.{Refusal}
use Rattle.bpf_note.specs.Shape.{IsNarrow, most_maps}
use Rattle.bpf_verify.specs.Consistent.{Accepted}
use Rattle.xdp_program.specs.Settings.{IsProgramOf, IsSettingsOutOfMemory}
use Rattle.xdp_program.specs.declared.fault.LoadFault.{LoadFault}
use Rattle.xdp_program.specs.declared.fault.LoadFault.TheVariants.{Refused}
use Rattle.xdp_program.specs.declared.fault.SettingsFault.{SettingsFault}
use Rattle.xdp_program.specs.declared.fault.SettingsFault.TheVariants.{Program}
use Rattle.xdp_program.proofs.LoadLemmas.{out_of_memory_refused}
use Rattle.xdp_host.specs.Answers.{AreWithin, IsFault, IsFaultOfText, IsFirstOutside, IsLoaded, shape_of, shapes_of}
use Rattle.xdp_host.specs.Verdict.{out_of_memory}
use Rattle.xdp_host.specs.declared.fault.Fault.{Fault}
use Rattle.xdp_host.specs.declared.abi.XdpMap.{XdpMap}

-- no map is out of its limits where all are within
pub none_outside : (maps : List XdpMap) (number : ℕ) → IsFirstOutside maps number → AreWithin maps → ⊥
none_outside maps number o w =
    let blank : XdpMap = record { entries = 0; counters = 0 } in
    let there : number < length (shapes_of maps) = subst (λ n. number < n) (sym (length-map maps shape_of)) o.there in
    o.outside blank (subst IsNarrow (get_or-map shape_of maps number blank (shape_of blank) o.there) (w.shapes number (shape_of blank) there))

-- a refusal of a settings text's program is for out of memory where its fault is
pub refusal_out_of_memory : (f : SettingsFault) (g : LoadFault) (r : Refusal) → f ≡ Program g → g ≡ Refused r → IsSettingsOutOfMemory f → r.cause ≡ Memory
refusal_out_of_memory f g r a b h = subst (λ x. IsSettingsOutOfMemory (Program x)) b (subst IsSettingsOutOfMemory a h)

-- memory may run out once a program is loaded
pub out_of_memory_loaded : (bytes : List ℕ) (maps : List XdpMap) (p : Accepted) → IsLoaded bytes maps p → IsFault bytes maps out_of_memory
out_of_memory_loaded bytes maps p l = (l.maps_within, out_of_memory_refused p.code bytes (shapes_of maps) l.spelled)

pub out_of_memory_loaded_text : (bytes : List ℕ) (p : Accepted) → IsProgramOf bytes p → length p.shapes ≤ most_maps → IsFaultOfText bytes out_of_memory
out_of_memory_loaded_text bytes p h few =
    (h.0, h.1, subst (λ shapes. length shapes ≤ most_maps) h.3 few, out_of_memory_refused p.code h.0.setup.program h.0.setup.shapes h.2)

-- what is known of a program is known of the one that was put into a box, and what is known of the fault of the other answer
pub ok_with : {X E A : Type 0} (r : Result X E) (view : X → A) (P : A → Type 0) (p : A) → IfOk r (λ x. view x ≡ p) → P p → IfOk r (λ x. P (view x))
ok_with (Ok x) view P p e h = subst P (sym e) h
ok_with (Err e) view P p _ h = tt

pub err_with : {X : Type 0} (r : Result X Fault) (P : Fault → Type 0) (f : Fault) → IfErr r (λ g. g ≡ f) → P f → IfErr r P
err_with (Ok x) P f _ h = tt
err_with (Err g) P f e h = subst P (sym e) h
