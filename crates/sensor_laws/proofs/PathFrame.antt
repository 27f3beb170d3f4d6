-- The facts of a change of the path.
use Rattle.std.proofs.Common.{◌≡◌, false, inl, refl, sym}
use Rattle.page_tree.specs.Forest.{Tree}
use Rattle.page_tree.specs.Standings.{elements}
use Rattle.selector_meaning.specs.Texts.{Bytes}
use Rattle.sensor_meaning.specs.declared.change.Change.TheVariants.{Path as PathOf}
use Rattle.sensor_meaning.specs.declared.sensor.Observes.TheVariants.{Path}
use Rattle.sensor_laws.specs.Frame.{Frame, touched}
use Rattle.sensor_laws.proofs.Events.{IsNumbered, event_of}
use Rattle.sensor_laws.proofs.Any.{never_true}
use Rattle.sensor_laws.proofs.Sound.{in_named}
use Rattle.sensor_laws.proofs.Facts.{frame_of}

module _ (t : Tree) (tree : IsNumbered t) (path route : Bytes) where
  seen_path : {X : Type 0} → touched (event_of PathOf (λ x. false) t path t route) Path 0 ≡ false → X
  unfolding touched
  seen_path h = never_true (sym h)

  pub path_frame : Frame (event_of PathOf (λ x. false) t path t route)
  path_frame = frame_of (event_of PathOf (λ x. false) t path t route) (record {
    distinct_before = tree.distinct;
    distinct_after = tree.distinct;
    lone_before = tree.lone;
    lone_after = tree.lone;
    kept = λ s i m. (
      s,
      i,
      record {
        number = refl;
        name = refl;
        above = refl;
        beside = inl (refl, refl);
        attr = λ key h. refl;
        attrs = λ h. refl;
        blank = λ h. refl;
        said = inl refl;
      },
    );
    known_before = λ r i m. in_named r (elements t) i;
    hangs_before = λ s i m. never_true m;
    hangs_after = λ s i m. never_true m;
    all_below = λ s i m z a. refl;
    some_place = λ z m. never_true m;
    same_path = λ h. seen_path h;
  })
