-- What process directories keep.
use Rattle.kr_view.specs.InTree.{NoProcessesKeepLaws}

pub no_processes : NoProcessesKeepLaws
no_processes = record {
  lawful = record {
    stands = λ at name found h. absurd cc;
    named = λ at name found h. absurd cc;
    short = λ at name found h. absurd cc;
    shown = λ name pid h. absurd cc;
    texts = λ at text h. absurd cc;
  };
  places = λ t table. record {
    places = λ at p dir name h. absurd cc;
    files = λ at p dir name h none some. absurd cc;
    directories = λ at p dir name h is. absurd cc;
  };
  entries = λ t at p dir name h none. absurd cc;
}
