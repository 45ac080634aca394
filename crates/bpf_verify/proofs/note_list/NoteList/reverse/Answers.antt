use Rattle.bpf_verify.proofs.FollowLemmas.{turned_boxes}
use Rattle.bpf_verify.proofs.note_list.NoteList.reverse.Goals as goal

pub returns : goal.returns
returns c = turned_boxes (λ b. b.value) c.self.inside.notes.items c.reverse.new.self.items c.args.self.now c.reverse.ensures.items c.self.view_is
