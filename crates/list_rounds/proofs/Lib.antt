mod MarkLoop
