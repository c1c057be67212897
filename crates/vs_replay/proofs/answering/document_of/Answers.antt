use Rattle.std.proofs.Common.{refl}
use Rattle.vs_replay.proofs.answering.document_of.Goals as goal

pub returns : goal.returns
returns c =
    let t = c.args.tree.now in
    let known = c.instance-instance.ensures in
    let text = c.in_ok-text.ensures in
    record {
      document = text.document;
      of_state = text.of_state;
      has_text = text.has_text;
      holds = c.documents_of_states_hold.ensures t.opening t.steps text.document known.opening known.history
          text.of_state;
      status_is = refl;
      text_is = text.bytes_are;
    }
