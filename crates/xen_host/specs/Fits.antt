-- Stated: claims rest on this file.
-- What holds of the work at each stage.
use Rattle.std.specs.Prelude.{ℕ, ◌≡◌, ◌≢◌, ◌<◌, ◌≤◌, ◌+◌, true, length, drop, sum_by, IsTrue, Ok, Some}
use Rattle.std.proofs.Props.{props}
use Rattle.std.specs.List.{list_all}
use Rattle.xen_netif.specs.Fragments.{fragment_size, is_in_page}
use Rattle.xen_netif.specs.Standing.{standing}
use Rattle.xen_netif.specs.declared.chain.ChainState.TheVariants.{Complete}
use Rattle.xen_netif.specs.declared.fragment.Fragment.{Fragment}
use Rattle.xen_steps.specs.Pages.{covered}
use Rattle.xen_turns.specs.Delivered.{is_frame}
use Rattle.xen_host.specs.declared.stage.Fill.{Fill}
use Rattle.xen_host.specs.declared.stage.Fill.TheVariants as fill
use Rattle.xen_host.specs.declared.stage.Stage.{Stage}
use Rattle.xen_host.specs.declared.stage.Stage.TheVariants as stage
use Rattle.xen_host.specs.EngineAt.{WorkAt}

-- The fragments from the i-th on can be copied after the packet's bytes.
pub record HasCopyRoom (b : WorkAt) (i : ℕ) : Type 0 where
  pub within : i ≤ length b.fragments
  pub in_page : IsTrue (list_all is_in_page b.fragments)
  pub room : length b.packet + sum_by fragment_size (drop i b.fragments) ≤ 65535

-- And so can a page of one before them.
pub record HasPageRoom (b : WorkAt) (i : ℕ) (f : Fragment) : Type 0 where
  pub within : i ≤ length b.fragments
  pub in_page : IsTrue (list_all is_in_page b.fragments)
  pub here : IsTrue (is_in_page f)
  pub some : 0 < covered f
  pub room : length b.packet + f.size + sum_by fragment_size (drop i b.fragments) ≤ 65535

abbrev pub FillFits : Fill → WorkAt → Type 0
FillFits (fill.Slot left) b = length b.targets + left < 17
FillFits (fill.Grant left id at) b = length b.targets + left < 17
FillFits (fill.Words i) b = i ≤ 16
FillFits (fill.Respond grants i) b = i ≤ length b.targets
FillFits f b = Unit {0}

abbrev pub Fits : Stage → WorkAt → Type 0
Fits (stage.Slot left) b = standing b.chain ≢ Some (Ok Complete)
Fits (stage.Entry i at) b = (i < 18) × (i < length b.fragments) × HasCopyRoom b i
Fits (stage.Page i f frame) b = HasPageRoom b i f
Fits (stage.Fill f p) b = FillFits f b
Fits (stage.Respond i) b = i ≤ length b.chain
Fits (stage.Deliver producer) b = is_frame b.packet ≡ true
Fits g b = Unit {0}

fill-prop : (f : Fill) (b : WorkAt) → IsProp (FillFits f b)
fill-prop fill.Producer b = hlevel props
fill-prop (fill.Slot left) b = hlevel props
fill-prop (fill.Grant left id at) b = hlevel props
fill-prop (fill.Words i) b = hlevel props
fill-prop (fill.Respond grants i) b = hlevel props
fill-prop (fill.Push grants) b = hlevel props
fill-prop (fill.Notice grants) b = hlevel props

-- This has one proof at most.
pub Fits-prop : (g : Stage) (b : WorkAt) → IsProp (Fits g b)
Fits-prop stage.Ready b = hlevel props
Fits-prop stage.Announce b = hlevel props
Fits-prop (stage.Slot left) b = hlevel props
Fits-prop (stage.Entry i at) b = hlevel props
Fits-prop (stage.Page i f frame) b = hlevel props
Fits-prop (stage.Fill f p) b = fill-prop f b
Fits-prop (stage.Respond i) b = hlevel props
Fits-prop stage.Push b = hlevel props
Fits-prop stage.Notice b = hlevel props
Fits-prop (stage.Deliver producer) b = hlevel props
Fits-prop (stage.Wait pages) b = hlevel props
Fits-prop (stage.WaitLook pages) b = hlevel props
Fits-prop stage.Several b = hlevel props
