use Rattle.xen_page.proofs.TableLemmas.{entry_in_table}
use Rattle.xen_page.proofs.laws.entries_lie_in_the_table.Goals as goal

pub returns : goal.returns
returns c = entry_in_table
