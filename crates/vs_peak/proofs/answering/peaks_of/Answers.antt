use Rattle.std.proofs.Common.{◌∙◌, List, ap, refl, subst, sym}
use Rattle.vs_peakcheck.specs.Claims.{AreClaimed}
use Rattle.vs_peakcheck.specs.declared.claimed.Claimed.{Claimed}
use Rattle.vs_reader.specs.Rows.{lines}
use Rattle.vs_peakcheck.specs.PeakRows.{peak_text}
use Rattle.vs_peak.proofs.answering.peaks_of.Goals as goal

pub write-requires-clause-claimed : goal.write-requires-clause-claimed
write-requires-clause-claimed c =
    subst (AreClaimed c.args.instance.now) (sym c.deref.ensures.value) c.in_ok-claimed.ensures.checked.claims

pub returns : goal.returns
returns c =
    let made = c.in_ok-claimed.ensures in
    record {
      claimed = c.in_ok-claimed.claimed.items;
      claims = made.checked.claims;
      holds = made.holds;
      proves = made.proves;
      status_is = refl;
      text_is = c.in_ok-text.ensures
          ∙ ap (λ (claimed : List Claimed). lines (peak_text c.args.instance.now c.args.names.now claimed))
          c.deref.ensures.value;
    }
