use Rattle.std.proofs.Common.{◌≡◌, ℕ, Bool, true, false, List, None, refl}
use Rattle.std.specs.Prelude.{◌==◌, if◌then◌else◌}
use Rattle.xen_netif.specs.Offloads.{data_flags}
use Rattle.xen_netif.specs.Slots.{rx_rsp_words}
use Rattle.xen_netif.specs.declared.offload.RxOffload.TheVariants.{Whole}
use Rattle.xen_rx_fill.specs.Packets.{has_more, status_at, words_or}
use Rattle.xen_rx_fill.specs.Whole.{PlainResponses, plain_response}
use Rattle.xen_rx_fill.specs.declared.target.Grants.{Grants}
use Rattle.xen_rx_fill.specs.declared.target.Grants.TheVariants.{Passed, Refused}
use Rattle.xen_rx_fill.proofs.laws.whole_packets_are_plain.Goals as goal

-- by whether a slot is the second, and whether a page is the first
by : (grants : Grants) (packet : List ℕ) (n i id : ℕ) (second first : Bool) →
    words_or (if second then None else None)
    (rx_rsp_words (record { id = id; offset = 0; flags = data_flags (if first then Whole else Whole) (has_more Whole grants n i); status = status_at grants packet i }))
    ≡ rx_rsp_words (plain_response grants packet n i id)
by Passed packet n i id true true = refl
by Passed packet n i id true false = refl
by Passed packet n i id false true = refl
by Passed packet n i id false false = refl
by Refused packet n i id true true = refl
by Refused packet n i id true false = refl
by Refused packet n i id false true = refl
by Refused packet n i id false false = refl

responses : PlainResponses
responses Passed packet n i id = by Passed packet n i id (i == 1) (i == 0)
responses Refused packet n i id = by Refused packet n i id (i == 1) (i == 0)

pub returns : goal.returns
returns c = record { slots = λ packet. refl; buffers = λ ts k. refl; responses = responses }
